-- What is read of an entry, or of a group below, comes before the rest of them.
use Rattle.std.proofs.Common.{◌≡◌, ◌+◌, List, drop, map, sym, ap, ◌∙◌}
use Rattle.std.specs.FinMap.{insert}
use Rattle.vault_model.specs.declared.nodes.Entry.{Entry}
use Rattle.vault_model.specs.declared.nodes.Group.{Group, out-Group}
use Rattle.vault_model.specs.Db.{NodeId}
use Rattle.vault_model.specs.SeenNodes.{entry_row, tree_seen}
use Rattle.vault_model.specs.Shape.{place_at}
use Rattle.vault_model.specs.Tree.{Tree, all_trees, id_of, with_entry_previous, with_previous, with_previous_all}
use Rattle.merge_tables.proofs.ListSteps.{drop_next}
use Rattle.merge_reading.specs.declared.reading.Columns.{Columns}
use Rattle.merge_reading.specs.Columns.{tree_stay, with_entries, with_place, with_tree, with_trees}
use Rattle.merge_reading.proofs.SeenRoots.{rooted_home, rooted_id, rooted_stay}
use Rattle.merge_reading.proofs.reading.+read_group.Goals as goal

pub loop-entry-preserved : goal.loop-entry-preserved
loop-entry-preserved t c =
    let items = c.as_slice-entry-items.result.now in
    let i = c.loop-entry.entry-index in
    let settled = with_entry_previous c.args.former.now c.args.root.now in
    ap (λ (n : Columns). with_entries c.args.id (map settled (map entry_row (drop (i + 1) items))) n) c.in_ok-read_entry.ensures
    ∙ ap (λ (es : List Entry). with_entries c.args.id (map settled (map entry_row es)) c.loop-entry.columns) (sym (drop_next items i c.entry-item.result c.loop-entry-test.true c.entry-item.is))
    ∙ c.loop-entry.invariant

pub loop-child-preserved : goal.loop-child-preserved
loop-child-preserved t c =
    let items = c.as_slice-child-items.result.now in
    let i = c.loop-child.child-index in
    let x = c.child-item.result in
    let old = c.args.former.now in
    let new = c.args.root.now in
    let seen : Tree = with_previous old new (tree_seen x) in
    let before : Columns = c.loop-child.columns in
    let placed : c.put-in-loop-child.new.self ≡ insert before.places (id_of seen) (place_at (tree_stay seen) c.args.id) =
    c.in_ok-put-2.ensures.ok
    ∙ ap (λ (v : NodeId). insert before.places (out-Group x).id (record { placed = (out-Group x).placed; parent = c.args.id; previous = v })) c.new_previous.ensures
    ∙ (λ k. insert before.places (sym (rooted_id old new x) k) (place_at (sym (rooted_stay old new x) k) c.args.id))
    in
    let step : c.read_group.new.columns ≡ with_tree seen (with_place c.args.id seen before) =
    c.in_ok-read_group.ensures
    ∙ ap (λ (u : Tree). with_tree u (record before { places = c.put-in-loop-child.new.self })) (rooted_home old new x)
    ∙ ap (with_tree seen) (λ k. record before { places = placed k })
    in
    ap (with_trees c.args.id (with_previous_all old new (all_trees (map tree_seen (drop (i + 1) items))))) step
    ∙ ap (λ (gs : List Group). with_trees c.args.id (with_previous_all old new (all_trees (map tree_seen gs))) before) (sym (drop_next items i x c.loop-child-test.true c.child-item.is))
    ∙ c.loop-child.invariant
