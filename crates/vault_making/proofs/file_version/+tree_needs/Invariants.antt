use Rattle.std.proofs.Common.{◌≡◌, drop, map}
use Rattle.vault_making.specs.NeededVersion as spec
use Rattle.vault_model.specs.SeenNodes.{tree_seen}
use Rattle.vault_model.specs.Tree.{all_trees}
use Rattle.vault_making.proofs.file_version.+tree_needs.Given as goal

abbrev pub invariant-loop-child : goal.invariant-loop-child
invariant-loop-child l =
    spec.later l.below (spec.trees_need (all_trees (map tree_seen (drop l.child-index l.child-items))))
    ≡ spec.trees_need (all_trees (map tree_seen l.child-items))
