use Rattle.std.proofs.Common.{◌≡◌, drop}
use Rattle.std.specs.Option.{option_map}
use Rattle.psafe_core.specs.Records.{last_of, text_in}
use Rattle.psafe_file.specs.SeenFields.{fields_seen}
use Rattle.psafe_core.proofs.Lasts.{last_after}
use Rattle.psafe_core.proofs.readings.last_text.Given as goal

abbrev pub invariant-loop-field : goal.invariant-loop-field
invariant-loop-field l =
    last_after (text_in l.kind) (fields_seen (drop l.field-index l.record_fields)) (option_map (λ t. t.now) l.last)
    ≡ last_of (text_in l.kind) (fields_seen l.record_fields)
