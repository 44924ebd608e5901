-- Those that were wanted on the way are the ones that are not among the others.
use Rattle.std.proofs.Common.{◌≡◌, ◌≤◌, ◌+◌, ◌++◌, ◌∷◌, [], Bool, List, cond, drop, is_some, not, length, rules, tests, arith, ap, sym, ◌∙◌}
use Rattle.std.specs.FinMap.{contains_key, get}
use Rattle.vault_model.specs.Db.{NodeId}
use Rattle.merge_arranging.proofs.AppendWanted.{append_each, append_filter}
use Rattle.merge_tables.proofs.ListSteps.{drop_end, drop_next}
use Rattle.merge_arranging.proofs.laying.push_newcomers.Goals as goal

pub returns : goal.returns
returns c =
    let ids = c.args.present.now in
    let wanted : NodeId → Bool = λ u. not (contains_key c.args.before.now u) in
    let end : length ids ≤ c.loop-id.id-index = omega arith in
    sym (ap (append_each wanted c.loop-id.order.items) (drop_end ids c.loop-id.id-index end))
    ∙ sym c.loop-id.invariant
    ∙ append_filter wanted c.args.order.now.items ids

pub loop-id-preserved : goal.loop-id-preserved
loop-id-preserved c =
    let ids = c.args.present.now in
    let i = c.loop-id.id-index in
    let x = c.id-item.result in
    let so_far = c.loop-id.order.items in
    let rest = drop (i + 1) ids in
    let wanted : NodeId → Bool = λ u. not (contains_key c.args.before.now u) in
    let here : c.is_none-is_new.result ≡ not (is_some (get c.args.before.now x)) = search (rules, tests) in
    c.loop-id.invariant
    ∙ ap (append_each wanted so_far) (drop_next ids i x c.loop-id-test.true c.id-item.is)
    ∙ ap (λ (us : List NodeId). append_each wanted us rest) (sym (c.in_ok-push_if.ensures ∙ ap (λ b. so_far ++ cond b (x ∷ []) []) here))
