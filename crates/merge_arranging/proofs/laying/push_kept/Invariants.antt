use Rattle.std.proofs.Common.{◌≡◌, Bool, drop}
use Rattle.std.specs.FinMap.{contains_key}
use Rattle.vault_model.specs.Db.{NodeId}
use Rattle.merge_arranging.proofs.AppendWanted.{append_each}
use Rattle.merge_arranging.proofs.laying.push_kept.Given as goal

abbrev pub invariant-loop-id : goal.invariant-loop-id
invariant-loop-id l =
    let wanted : NodeId → Bool = λ u. contains_key l.present u in append_each wanted l.fn.order.items l.before ≡ append_each wanted l.order.items (drop l.id-index l.before)
