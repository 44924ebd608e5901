use Rattle.std.proofs.Common.{ap, sym, ◌∙◌}
use Rattle.import_tree.specs.DocForms.Values.{iso_time}
use Rattle.table_reading.proofs.IsoTimes.{iso_found, time_given}
use Rattle.table_reading.proofs.cells.time_of.Goals as goal

pub returns : goal.returns
returns c =
    time_given c.args.now c.args.text.now c.stamp_of_iso.result (sym c.is_empty.ensures ∙ c.if-is_empty.false)
    (iso_found c.stamp_of_iso.result c.as_bytes.result.now c.stamp_of_iso.ensures ∙ ap iso_time c.as_bytes.ensures.value)
