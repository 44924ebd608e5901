use Rattle.std.proofs.Common.{◌≡◌, drop}
use Rattle.std.specs.Prelude.{map}
use Rattle.vault_model.specs.SeenNodes.{tree_seen}
use Rattle.vault_model.specs.Tree.{all_trees}
use Rattle.tree_core.specs.Changes.{parent_among}
use Rattle.tree_moves.proofs.parents.+parent_of.Given as goal

abbrev pub invariant-loop-child : goal.invariant-loop-child
invariant-loop-child l =
    parent_among l.id (all_trees (map tree_seen (drop l.child-index l.child-items))) ≡ parent_among l.id (all_trees (map tree_seen l.child-items))
