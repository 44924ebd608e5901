use Rattle.std.proofs.Common.{◌≡◌, ◌++◌, Bool, map}
use Rattle.vault_model.specs.Db.{NodeId}
use Rattle.merge_checks.proofs.cycles.push_ids.Given as goal

abbrev pub invariant-loop-id : goal.invariant-loop-id
invariant-loop-id l = l.list ++ map (λ (e : NodeId × Bool). e.0) l.id-iterator ≡ map (λ (e : NodeId × Bool). e.0) l.initial.id-iterator
