-- All entries of the group, and then all groups in it.
use Rattle.std.proofs.Common.{◌≡◌, ◌≤◌, Bool, List, map, length, ap, sym, ◌∙◌}
use Rattle.vault_model.specs.declared.nodes.Entry.{Entry}
use Rattle.vault_model.specs.declared.nodes.Group.{Group, out-Group}
use Rattle.vault_model.specs.Db.{NodeId}
use Rattle.vault_model.specs.SeenNodes.{entry_row, tree_seen}
use Rattle.vault_model.specs.Shape.{EntryRecord}
use Rattle.vault_model.specs.Tree.{all_trees}
use Rattle.merge_core.specs.Marking.{is_marked}
use Rattle.merge_tables.proofs.ListSteps.{drop_end}
use Rattle.merge_checks.specs.Clashes.{clash_in_all, least_with_all}
use Rattle.merge_checks.proofs.SeenBelow.{seen_below}
use Rattle.merge_checks.proofs.roots.+clash_below.Goals as goal

pub returns : goal.returns
returns t c =
    let test : NodeId → Bool = is_marked c.args.roots.now in
    let g = c.args.group.now in
    let es = c.as_slice-entry-items.result.now in
    let gs = c.as_slice-child-items.result.now in
    sym (ap (λ (xs : List Group). clash_in_all test (all_trees (map tree_seen xs)) c.loop-child.found) (drop_end gs c.loop-child.child-index c.loop-child-test.false))
    ∙ c.loop-child.invariant
    ∙ ap (λ (xs : List Group). clash_in_all test (all_trees (map tree_seen xs)) c.loop-entry.found) c.as_slice-child-items.ensures
    ∙ ap (clash_in_all test (all_trees (map tree_seen (out-Group g).groups)))
    (sym
    (ap (λ (xs : List Entry). least_with_all test (map (λ (e : NodeId × EntryRecord). e.0) (map entry_row xs)) c.loop-entry.found)
    (drop_end es c.loop-entry.entry-index c.loop-entry-test.false))
    ∙ c.loop-entry.invariant
    ∙ ap (λ (xs : List Entry). least_with_all test (map (λ (e : NodeId × EntryRecord). e.0) (map entry_row xs)) c.args.so_far) c.as_slice-entry-items.ensures)
    ∙ sym (seen_below test g c.args.so_far)
