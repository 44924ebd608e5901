use Rattle.std.proofs.Common.{◌≡◌, map, drop}
use Rattle.vault_model.specs.SeenNodes.{entry_row, tree_seen}
use Rattle.vault_model.specs.Tree.{all_trees, with_entry_previous, with_previous_all}
use Rattle.merge_reading.specs.Columns.{with_entries, with_trees}
use Rattle.merge_reading.proofs.reading.+read_group.Given as goal

abbrev pub invariant-loop-entry : goal.invariant-loop-entry
invariant-loop-entry l =
    with_entries l.id (map (with_entry_previous l.former l.root) (map entry_row (drop l.entry-index l.entry-items))) l.columns
    ≡ with_entries l.id (map (with_entry_previous l.former l.root) (map entry_row l.entry-items)) l.initial.columns

abbrev pub invariant-loop-child : goal.invariant-loop-child
invariant-loop-child l =
    with_trees l.id (with_previous_all l.former l.root (all_trees (map tree_seen (drop l.child-index l.child-items)))) l.columns
    ≡ with_trees l.id (with_previous_all l.former l.root (all_trees (map tree_seen l.child-items))) l.initial.columns
