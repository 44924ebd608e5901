use Rattle.std.proofs.Common.{◌+◌, List, Some, cond, drop, find, map, sym, ap, ◌∙◌}
use Rattle.vault_model.specs.Db.{NodeId}
use Rattle.vault_model.specs.Join.{is_id}
use Rattle.vault_model.specs.SeenNodes.{entry_row}
use Rattle.vault_model.specs.Shape.{EntryRecord}
use Rattle.vault_model.specs.declared.nodes.Entry.{Entry}
use Rattle.tree_steps.proofs.Steps.{drop_next}
use Rattle.tree_steps.proofs.searches.own_entry.Goals as goal

pub loop-entry-preserved : goal.loop-entry-preserved
loop-entry-preserved c =
    let items = c.as_slice-entry-items.result.now in
    let i = c.loop-entry.entry-index in
    let x = c.entry-item.result in
    let test = λ (e : NodeId × EntryRecord). is_id e.0 c.args.id in
    sym (ap (λ (es : List Entry). find test (map entry_row es)) (drop_next items i x c.loop-entry-test.true c.entry-item.is)
    ∙ ap (λ b. cond b (Some (entry_row x)) (find test (map entry_row (drop (i + 1) items)))) (sym c.is_same.ensures ∙ c.if-is_same.false))
    ∙ c.loop-entry.invariant
