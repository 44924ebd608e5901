use Rattle.std.proofs.Common.{◌≡◌, map, drop}
use Rattle.vault_model.specs.SeenNodes.{entry_row, tree_seen}
use Rattle.vault_model.specs.Tree.{all_trees}
use Rattle.merge_shapes.specs.NodeTables.{with_all_nodes, with_rows}
use Rattle.merge_shapes.proofs.nodes.+add_group.Given as goal

abbrev pub invariant-loop-entry : goal.invariant-loop-entry
invariant-loop-entry l = with_rows (map entry_row (drop l.entry-index l.entry-items)) l.nodes ≡ with_rows (map entry_row l.entry-items) l.initial.nodes

abbrev pub invariant-loop-child : goal.invariant-loop-child
invariant-loop-child l =
    with_all_nodes (all_trees (map tree_seen (drop l.child-index l.child-items))) l.nodes
    ≡ with_all_nodes (all_trees (map tree_seen l.child-items)) l.initial.nodes
