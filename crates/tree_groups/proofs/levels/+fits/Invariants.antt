use Rattle.std.proofs.Common.{◌≡◌, ◌-◌, drop, max}
use Rattle.std.specs.Prelude.{map}
use Rattle.vault_model.specs.SeenNodes.{tree_seen}
use Rattle.vault_model.specs.Tree.{all_trees, height_all}
use Rattle.tree_groups.proofs.levels.+fits.Given as goal

abbrev pub invariant-loop-child : goal.invariant-loop-child
invariant-loop-child l =
    max (l.levels - 1) (height_all (all_trees (map tree_seen (drop l.child-index l.child-items)))) ≡ max (l.levels - 1) (height_all (all_trees (map tree_seen l.child-items)))
