use Rattle.std.proofs.Common.{◌≡◌, Bool, drop, not}
use Rattle.std.specs.FinMap.{contains_key}
use Rattle.vault_model.specs.Db.{NodeId}
use Rattle.merge_arranging.proofs.AppendWanted.{append_each}
use Rattle.merge_arranging.proofs.laying.push_newcomers.Given as goal

abbrev pub invariant-loop-id : goal.invariant-loop-id
invariant-loop-id l =
    let wanted : NodeId → Bool = λ u. not (contains_key l.before u) in append_each wanted l.fn.order.items l.present ≡ append_each wanted l.order.items (drop l.id-index l.present)
