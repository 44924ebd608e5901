use Rattle.std.proofs.Common.{◌≡◌, drop}
use Rattle.std.specs.Prelude.{map}
use Rattle.vault_model.specs.SeenNodes.{tree_seen}
use Rattle.vault_model.specs.Tree.{all_trees}
use Rattle.tree_core.specs.Changes.{level_among}
use Rattle.tree_groups.proofs.levels.+levels_below.Given as goal

abbrev pub invariant-loop-child : goal.invariant-loop-child
invariant-loop-child l =
    level_among l.id (all_trees (map tree_seen (drop l.child-index l.child-items))) ≡ level_among l.id (all_trees (map tree_seen l.child-items))
