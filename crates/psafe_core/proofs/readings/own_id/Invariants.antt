use Rattle.std.proofs.Common.{◌≡◌, drop}
use Rattle.psafe_core.specs.Records.{last_of, id_in}
use Rattle.psafe_file.specs.SeenFields.{fields_seen}
use Rattle.psafe_core.proofs.Lasts.{last_after}
use Rattle.psafe_core.proofs.readings.own_id.Given as goal

abbrev pub invariant-loop-field : goal.invariant-loop-field
invariant-loop-field l =
    last_after id_in (fields_seen (drop l.field-index l.record_fields)) l.last ≡ last_of id_in (fields_seen l.record_fields)
