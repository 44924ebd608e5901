use Rattle.std.proofs.Common.{◌≡◌, ◌++◌, map, drop}
use Rattle.vault_model.specs.SeenNodes.{tree_seen}
use Rattle.vault_model.specs.Tree.{all_trees, ids_of}
use Rattle.merge_shapes.proofs.nodes.push_group_ids.Given as goal

abbrev pub invariant-loop-group : goal.invariant-loop-group
invariant-loop-group l =
    l.ids.items ++ ids_of (all_trees (map tree_seen (drop l.group-index l.groups))) ≡ ids_of (all_trees (map tree_seen l.groups))
