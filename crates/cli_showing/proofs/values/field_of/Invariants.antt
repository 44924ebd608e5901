use Rattle.std.proofs.Common.{◌≡◌, drop}
use Rattle.std.specs.Prelude.{map}
use Rattle.vault_model.specs.Seen.{bare_field}
use Rattle.cli_showing.specs.Showing.{field_of}
use Rattle.cli_showing.proofs.values.field_of.Given as goal

abbrev pub invariant-loop-field : goal.invariant-loop-field
invariant-loop-field l = field_of l.key (map bare_field (drop l.field-index l.fields)) ≡ field_of l.key (map bare_field l.fields)
