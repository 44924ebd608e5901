use Rattle.std.proofs.Common.{◌≡◌, [], drop, sym, ap, ◌∙◌}
use Rattle.std.proofs.lemmas.List.{drop_all}
use Rattle.import_tree.proofs.Deep.{own, own_other, pushed}
use Rattle.import_tree.proofs.outcome.+push_deep_ids.Goals.{then-levels-eq0+in_ok-push, else-levels-eq0}
use Rattle.import_tree.proofs.outcome.+push_deep_ids.Goals as goal

pub returns : goal.returns
returns t c =
    let end : drop c.loop-child.child-index c.as_slice-child-items.result.now ≡ [] = drop_all _ _ c.loop-child-test.false in
    let own_ids : c.if-levels-eq0.ids.items ≡ own c.args.levels c.args.ids.now.items c.args.group.now = elim c.if-levels-eq0.branch [
      | then-levels-eq0+in_ok-push w ↦ rw w.ids-is (w.in_ok-push.ensures.items ∙ sym (ap (λ n. own n c.args.ids.now.items c.args.group.now) w.if-levels-eq0.true))
      | else-levels-eq0 w ↦ rw w.ids-is (sym (own_other c.args.levels c.args.ids.now.items c.args.group.now w.if-levels-eq0.false))
    ] in
    pushed c.args.levels c.saturating_sub-below.result c.args.ids.now.items c.if-levels-eq0.ids.items c.loop-child.ids.items c.args.group.now
    c.as_slice-child-items.result.now (drop c.loop-child.child-index c.as_slice-child-items.result.now)
    c.saturating_sub-below.ensures own_ids c.as_slice-child-items.ensures c.loop-child.invariant end
