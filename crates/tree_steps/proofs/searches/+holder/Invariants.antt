use Rattle.std.proofs.Common.{◌≡◌, drop}
use Rattle.std.specs.Prelude.{map}
use Rattle.vault_model.specs.SeenNodes.{tree_seen}
use Rattle.vault_model.specs.Tree.{all_trees}
use Rattle.tree_core.specs.Changes.{holder_among}
use Rattle.tree_steps.proofs.searches.+holder.Given as goal

abbrev pub invariant-loop-child : goal.invariant-loop-child
invariant-loop-child l =
    holder_among l.id (all_trees (map tree_seen (drop l.child-index l.child-items))) ≡ holder_among l.id (all_trees (map tree_seen l.child-items))
