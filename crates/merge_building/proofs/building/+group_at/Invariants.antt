use Rattle.std.proofs.Common.{◌≡◌, ◌++◌, ◌-◌, map, drop}
use Rattle.vault_model.specs.SeenNodes.{tree_seen}
use Rattle.merge_nodes.specs.Shapes.{shape}
use Rattle.merge_building.proofs.BuiltTrees.{trees}
use Rattle.merge_building.proofs.building.+group_at.Given as goal

abbrev pub decreases-group_at : goal.decreases-group_at
decreases-group_at l = l.levels

abbrev pub invariant-loop-child : goal.invariant-loop-child
invariant-loop-child l =
    map tree_seen l.groups ++ trees (shape l.from) (l.levels - 1) (drop l.child-index l.child-items) ≡ trees (shape l.from) (l.levels - 1) l.child-items
