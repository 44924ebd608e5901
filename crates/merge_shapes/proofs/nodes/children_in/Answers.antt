-- Both lists are those of the group's tree.
use Rattle.std.proofs.Common.{List, map, ap, sym, ◌∙◌}
use Rattle.vault_model.specs.declared.nodes.Entry.{Entry}
use Rattle.vault_model.specs.declared.nodes.Group.{Group}
use Rattle.vault_model.specs.Db.{NodeId}
use Rattle.vault_model.specs.SeenNodes.{entry_row, tree_seen}
use Rattle.vault_model.specs.Shape.{EntryRecord}
use Rattle.vault_model.specs.Tree.{all_trees, ids_of}
use Rattle.merge_shapes.specs.NodeTables.{children_in}
use Rattle.merge_shapes.proofs.SeenNodes.{same_lists, seen_group}
use Rattle.merge_shapes.proofs.nodes.children_in.Goals as goal

pub returns-in-Ok : goal.returns-in-Ok
returns-in-Ok c =
    let entries = c.in_ok-entries.ensures ∙ ap (λ (xs : List Entry). map (λ (e : NodeId × EntryRecord). e.0) (map entry_row xs)) c.as_slice.ensures in
    let groups = c.in-Ok.ensures ∙ ap (λ (xs : List Group). ids_of (all_trees (map tree_seen xs))) c.as_slice-2.ensures in
    c.new.ensures ∙ same_lists _ _ _ _ entries groups ∙ sym (ap children_in (seen_group c.args.group.now))
