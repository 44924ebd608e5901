-- The last row is the current version, and the rows before it are the history.
use Rattle.std.proofs.Common.{◌<◌, Some, length, arith, ap, sym, ◌∙◌}
use Rattle.vault_model.specs.Shape.{EntryRecord, record_of, version_of}
use Rattle.merge_arranging.proofs.RecordRows.{record_of_rows}
use Rattle.merge_arranging.proofs.laying.record_of.Goals as goal

pub returns : goal.returns
returns c =
    let rows = c.rows-rows.result.now in
    let newest = c.index-rows-last.result in
    let some : 0 < length rows = omega (arith, c.if-rows-eq0.false) in
    let made : EntryRecord = record { placed = c.args.stay.placed; previous = c.args.stay.previous; current = version_of newest; history = c.in_ok-history.history.items } in
    ap Some c.new.ensures
    ∙ (λ i. Some (record made { current = (c.new-current.ensures ∙ ap version_of c.index-rows-last.is) i; history = c.in_ok-history.ensures i }))
    ∙ sym (record_of_rows c.args.stay rows newest some)
    ∙ ap (record_of c.args.stay) c.rows-rows.ensures
