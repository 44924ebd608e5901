use Rattle.std.proofs.Common.{◌||◌, ◌+◌, List, drop, map, sym, ap, ◌∙◌}
use Rattle.std.proofs.lemmas.List.Folds.{list_any-append}
use Rattle.std.specs.List.{list_any}
use Rattle.vault_model.specs.Db.{NodeId}
use Rattle.vault_model.specs.Join.{is_id}
use Rattle.vault_model.specs.SeenNodes.{entry_row, tree_seen}
use Rattle.vault_model.specs.Shape.{EntryRecord}
use Rattle.vault_model.specs.Tree.{all_trees, node_ids, node_ids_all}
use Rattle.vault_model.specs.declared.nodes.Entry.{Entry}
use Rattle.vault_model.specs.declared.nodes.Group.{Group}
use Rattle.tree_steps.proofs.Steps.{drop_next}
use Rattle.tree_steps.proofs.searches.+has_node.Goals as goal

pub loop-entry-preserved : goal.loop-entry-preserved
loop-entry-preserved t c =
    let items = c.as_slice-entry-items.result.now in
    let i = c.loop-entry.entry-index in
    let seen = λ (es : List Entry). list_any (is_id c.args.id) (map (λ (e : NodeId × EntryRecord). e.0) (map entry_row es)) in
    sym (ap seen (drop_next items i c.entry-item.result c.loop-entry-test.true c.entry-item.is)
    ∙ ap (λ b. b || seen (drop (i + 1) items)) (sym c.is_same-in-loop-entry.ensures ∙ c.if-is_same-2.false))
    ∙ c.loop-entry.invariant

pub loop-child-preserved : goal.loop-child-preserved
loop-child-preserved t c =
    let items = c.as_slice-child-items.result.now in
    let i = c.loop-child.child-index in
    let x = c.child-item.result in
    let test = is_id c.args.id in
    let seen = λ (gs : List Group). list_any test (node_ids_all (all_trees (map tree_seen gs))) in
    sym (ap seen (drop_next items i x c.loop-child-test.true c.child-item.is)
    ∙ list_any-append test (node_ids (tree_seen x)) (node_ids_all (all_trees (map tree_seen (drop (i + 1) items))))
    ∙ ap (λ b. b || seen (drop (i + 1) items)) (sym c.has_node.ensures ∙ c.if-has_node.false))
    ∙ c.loop-child.invariant
