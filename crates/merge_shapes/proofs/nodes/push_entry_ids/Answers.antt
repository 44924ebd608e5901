-- The id that is put comes before those of the rest.
use Rattle.std.proofs.Common.{◌<◌, ◌+◌, ◌++◌, ◌∷◌, [], List, append_assoc, length, drop, map, arith, ap, sym, ◌∙◌}
use Rattle.vault_model.specs.declared.nodes.Entry.{Entry}
use Rattle.vault_model.specs.Db.{NodeId}
use Rattle.vault_model.specs.SeenNodes.{entry_row}
use Rattle.vault_model.specs.Shape.{EntryRecord}
use Rattle.merge_tables.proofs.ListSteps.{drop_next}
use Rattle.merge_shapes.proofs.nodes.push_entry_ids.Goals as goal

pub loop-entry-preserved : goal.loop-entry-preserved
loop-entry-preserved c =
    let entries = c.args.entries.now in
    let i = c.loop-entry.entry-index in
    let e = c.entry-item.result in
    let before = c.loop-entry.ids.items in
    let rest = map (λ (r : NodeId × EntryRecord). r.0) (map entry_row (drop (i + 1) entries)) in
    let lt : i < length entries = omega arith in
    ap (λ (us : List NodeId). us ++ rest) c.in_ok-push.ensures.items
    ∙ append_assoc before (e.id ∷ []) rest
    ∙ ap (λ (es : List Entry). before ++ map (λ (r : NodeId × EntryRecord). r.0) (map entry_row es)) (sym (drop_next entries i e lt c.entry-item.is))
    ∙ c.loop-entry.invariant
