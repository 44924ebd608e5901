-- Part by part.
use Rattle.std.proofs.Common.{map, ap, refl, ◌∙◌}
use Rattle.std.specs.FinMap.{from_entries}
use Rattle.std.specs.List.{filter}
use Rattle.vault_model.specs.SeenDoc.{doc_seen}
use Rattle.merge_reading.specs.Rows.{is_other, tomb_row}
use Rattle.merge_reading.proofs.ReadRows.{of_parts}
use Rattle.merge_reading.proofs.lending.database_of.Goals as goal

pub returns : goal.returns
returns c =
    let has = c.in_ok-columns.ensures in
    let dead = c.in_ok-tombs.ensures ∙ ap (λ ts. from_entries (map tomb_row (filter (is_other c.args.root) ts))) c.as_slice.ensures in
    of_parts (doc_seen c.args.doc.now) c.args.root _ refl has.0 has.1.0 has.1.1 dead c.in_ok-meta.ensures
