use Rattle.std.proofs.Common.{◌≡◌, map, drop}
use Rattle.vault_model.specs.Db.{NodeId}
use Rattle.vault_model.specs.SeenNodes.{entry_row, tree_seen}
use Rattle.vault_model.specs.Shape.{EntryRecord}
use Rattle.vault_model.specs.Tree.{all_trees}
use Rattle.merge_core.specs.Marking.{is_marked}
use Rattle.merge_checks.specs.Clashes.{clash_in_all, least_with_all}
use Rattle.merge_checks.proofs.roots.+clash_below.Given as goal

abbrev pub invariant-loop-entry : goal.invariant-loop-entry
invariant-loop-entry l =
    least_with_all (is_marked l.roots) (map (λ (e : NodeId × EntryRecord). e.0) (map entry_row (drop l.entry-index l.entry-items))) l.found
    ≡ least_with_all (is_marked l.roots) (map (λ (e : NodeId × EntryRecord). e.0) (map entry_row l.entry-items)) l.fn.so_far

abbrev pub invariant-loop-child : goal.invariant-loop-child
invariant-loop-child l =
    clash_in_all (is_marked l.roots) (all_trees (map tree_seen (drop l.child-index l.child-items))) l.found
    ≡ clash_in_all (is_marked l.roots) (all_trees (map tree_seen l.child-items)) l.initial.found
