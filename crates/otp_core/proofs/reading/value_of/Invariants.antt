use Rattle.std.proofs.Common.{◌≡◌, drop}
use Rattle.std.specs.Prelude.{map}
use Rattle.vault_model.specs.Seen.{bare_field}
use Rattle.otp_core.specs.Reading.{value_of}
use Rattle.otp_core.proofs.reading.value_of.Given as goal

abbrev pub invariant-loop-field : goal.invariant-loop-field
invariant-loop-field l = value_of l.key (map bare_field (drop l.field-index l.fields)) ≡ value_of l.key (map bare_field l.fields)
