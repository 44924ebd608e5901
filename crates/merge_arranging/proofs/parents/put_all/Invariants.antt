use Rattle.std.proofs.Common.{◌≡◌, ◌++◌, drop}
use Rattle.std.specs.FinMap.{get}
use Rattle.std.specs.List.{filter}
use Rattle.vault_model.specs.Db.{NodeId}
use Rattle.vault_model.specs.Shape.{stands_in}
use Rattle.merge_arranging.specs.Parents.{ids_under}
use Rattle.merge_arranging.proofs.parents.put_all.Given as goal

abbrev pub invariant-loop-id : goal.invariant-loop-id
invariant-loop-id l =
    (g : NodeId) → filter (λ u. stands_in g (get l.places u)) l.ids ≡ ids_under l.children g ++ filter (λ u. stands_in g (get l.places u)) (drop l.id-index l.ids)
