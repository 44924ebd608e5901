use Rattle.std.proofs.Common.{◌≡◌, drop}
use Rattle.std.specs.Prelude.{map}
use Rattle.vault_model.specs.SeenNodes.{tree_seen}
use Rattle.vault_model.specs.Tree.{all_trees}
use Rattle.tree_core.specs.Changes.{have_group}
use Rattle.tree_steps.proofs.searches.+has_group.Given as goal

abbrev pub invariant-loop-child : goal.invariant-loop-child
invariant-loop-child l =
    have_group l.id (all_trees (map tree_seen (drop l.child-index l.child-items))) ≡ have_group l.id (all_trees (map tree_seen l.child-items))
