use Rattle.std.proofs.Common.{◌≡◌, List, [], drop, sym}
use Rattle.std.proofs.lemmas.List.{drop_all}
use Rattle.vault_model.specs.Db.{NodeId}
use Rattle.doc_resolving.proofs.NodeIds.{all_after, one_group_more}
use Rattle.doc_resolving.proofs.ids.+push_group_ids.Goals as goal

pub returns : goal.returns
returns t c =
    let none : drop c.loop-below.below-index c.as_slice-below-items.result.now ≡ [] = drop_all _ _ c.loop-below-test.false in
    sym {A = List NodeId}
    (all_after c.args.ids.now.items c.push.new.self.items c.push_entry_ids.new.ids.items c.loop-below.ids.items c.args.group.now c.as_slice.result.now
    c.as_slice-below-items.result.now (drop c.loop-below.below-index c.as_slice-below-items.result.now)
    (sym c.in_ok-push.ensures.items) c.as_slice.ensures (sym c.in_ok-push_entry_ids.ensures) c.as_slice-below-items.ensures c.loop-below.invariant none)

pub loop-below-preserved : goal.loop-below-preserved
loop-below-preserved t c =
    one_group_more _ c.loop-below.ids.items c.push_group_ids.new.ids.items c.as_slice-below-items.result.now c.loop-below.below-index c.below-item.result
    c.loop-below-test.true c.below-item.is c.loop-below.invariant c.in_ok-push_group_ids.ensures
