-- What is put of an entry, or of a group below, comes before the rest of them.
use Rattle.std.proofs.Common.{◌<◌, ◌+◌, List, ◌≡◌, length, drop, map, arith, ap, sym, ◌∙◌}
use Rattle.std.specs.FinMap.{insert}
use Rattle.vault_model.specs.declared.nodes.Entry.{Entry}
use Rattle.vault_model.specs.declared.nodes.Group.{Group, out-Group}
use Rattle.vault_model.specs.declared.nodes.GroupState.{GroupState}
use Rattle.vault_model.specs.SeenNodes.{entry_row, tree_seen}
use Rattle.vault_model.specs.Shape.{GroupRecord}
use Rattle.vault_model.specs.Tree.{all_trees}
use Rattle.merge_tables.proofs.ListSteps.{drop_end, drop_next}
use Rattle.merge_shapes.specs.declared.nodes.NodeTables.{NodeTables}
use Rattle.merge_shapes.specs.NodeTables.{children_in, with_all_nodes, with_rows}
use Rattle.merge_shapes.proofs.SeenNodes.{seen_nodes}
use Rattle.merge_shapes.proofs.nodes.+add_group.Goals as goal

pub loop-entry-preserved : goal.loop-entry-preserved
loop-entry-preserved t c =
    let items = c.as_slice-entry-items.result.now in
    let i = c.loop-entry.entry-index in
    let lt : i < length items = omega arith in
    ap (λ (n : NodeTables). with_rows (map entry_row (drop (i + 1) items)) n) c.in_ok-add_entry.ensures
    ∙ ap (λ (es : List Entry). with_rows (map entry_row es) c.loop-entry.nodes) (sym (drop_next items i c.entry-item.result lt c.entry-item.is))
    ∙ c.loop-entry.invariant

pub loop-child-preserved : goal.loop-child-preserved
loop-child-preserved t c =
    let items = c.as_slice-child-items.result.now in
    let i = c.loop-child.child-index in
    let lt : i < length items = omega arith in
    ap (λ (n : NodeTables). with_all_nodes (all_trees (map tree_seen (drop (i + 1) items))) n) c.in_ok-add_group.ensures
    ∙ ap (λ (gs : List Group). with_all_nodes (all_trees (map tree_seen gs)) c.loop-child.nodes) (sym (drop_next items i c.child-item.result lt c.child-item.is))
    ∙ c.loop-child.invariant

pub returns : goal.returns
returns t c =
    let g = c.args.group.now in
    let n = c.args.nodes.now in
    let es = c.as_slice-entry-items.result.now in
    let gs = c.as_slice-child-items.result.now in
    let id = (out-Group g).id in
    let row : GroupRecord = record { placed = (out-Group g).placed; previous = (out-Group g).previous; state = (out-Group g).state; view = (out-Group g).view } in
    let lent : c.new-lent.result ≡ row = c.new-lent.ensures ∙ ap (λ (s : GroupState). record row { state = s }) c.new.ensures in
    let start : NodeTables = record n { groups = c.put.new.self; children = c.put-2.new.self } in
    let whole : NodeTables = record n { groups = insert n.groups id row; children = insert n.children id (children_in (tree_seen g)) } in
    let begun : start ≡ whole =
    λ i. record n {
      groups = (c.in_ok-put.ensures.ok ∙ ap (insert n.groups id) lent) i;
      children = (c.in_ok-put-2.ensures.ok ∙ ap (insert n.children id) c.in_ok-children.ensures) i;
    }
    in
    sym (ap (λ (xs : List Group). with_all_nodes (all_trees (map tree_seen xs)) c.loop-child.nodes) (drop_end gs c.loop-child.child-index c.loop-child-test.false))
    ∙ c.loop-child.invariant
    ∙ ap (λ (xs : List Group). with_all_nodes (all_trees (map tree_seen xs)) c.loop-entry.nodes) c.as_slice-child-items.ensures
    ∙ ap (with_all_nodes (all_trees (map tree_seen (out-Group g).groups)))
    (sym (ap (λ (xs : List Entry). with_rows (map entry_row xs) c.loop-entry.nodes) (drop_end es c.loop-entry.entry-index c.loop-entry-test.false))
    ∙ c.loop-entry.invariant
    ∙ ap (λ (xs : List Entry). with_rows (map entry_row xs) start) c.as_slice-entry-items.ensures
    ∙ ap (with_rows (map entry_row (out-Group g).entries)) begun)
    ∙ sym (seen_nodes g n)
