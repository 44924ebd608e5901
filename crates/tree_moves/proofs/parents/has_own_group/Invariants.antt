use Rattle.std.proofs.Common.{◌≡◌, drop}
use Rattle.std.specs.Prelude.{is_some, map}
use Rattle.vault_model.specs.SeenNodes.{tree_seen}
use Rattle.vault_model.specs.Tree.{all_trees}
use Rattle.tree_core.specs.Changes.{own_group}
use Rattle.tree_moves.proofs.parents.has_own_group.Given as goal

abbrev pub invariant-loop-group : goal.invariant-loop-group
invariant-loop-group l =
    is_some (own_group l.id (all_trees (map tree_seen (drop l.group-index l.groups)))) ≡ is_some (own_group l.id (all_trees (map tree_seen l.groups)))
