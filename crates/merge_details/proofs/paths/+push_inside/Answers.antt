use Rattle.std.proofs.Common.{◌++◌, ◌∷◌, List, ap, map, sym, ◌∙◌, refl}
use Rattle.vault_model.specs.SeenNodes.{entry_row}
use Rattle.vault_model.specs.Tree.{Tree}
use Rattle.vault_model.specs.declared.nodes.Entry.{Entry}
use Rattle.vault_model.specs.declared.nodes.Group.{out-Group}
use Rattle.vault_model.proofs.SeenGroups.{seen_group}
use Rattle.merge_details.specs.PathTables.{entry_path, group_path, paths_among, paths_inside}
use Rattle.merge_details.proofs.TreeRows.{rows_done}
use Rattle.merge_details.proofs.paths.+push_inside.Goals as goal

pub returns : goal.returns
returns t c =
    let g = out-Group c.args.group.now in
    let above = c.args.above.now in
    let old = c.args.rows.now.items in
    rows_done (λ t. group_path above t ∷ paths_inside (group_path above t).1 t) (paths_among above) refl (λ t ts. refl)
    old (map (entry_path above) (map entry_row g.entries)) c.push_entries.new.rows.items c.loop-child.rows.items
    c.as_slice-child-items.result.now g.groups c.loop-child.child-index c.loop-child-test.false c.as_slice-child-items.ensures
    (c.in_ok-push_entries.ensures ∙ ap (λ (es : List Entry). old ++ map (entry_path above) (map entry_row es)) c.as_slice.ensures) c.loop-child.invariant
    ∙ sym (ap (λ (t : Tree). old ++ paths_inside above t) (seen_group c.args.group.now))
