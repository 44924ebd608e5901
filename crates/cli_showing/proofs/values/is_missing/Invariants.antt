use Rattle.std.proofs.Common.{◌≡◌, drop}
use Rattle.std.specs.Prelude.{map}
use Rattle.vault_model.specs.Seen.{bare_field}
use Rattle.cli_showing.specs.Showing.{is_missing}
use Rattle.cli_showing.proofs.values.is_missing.Given as goal

abbrev pub invariant-loop-field : goal.invariant-loop-field
invariant-loop-field l = is_missing (map bare_field (drop l.field-index l.fields)) l.name ≡ is_missing (map bare_field l.fields) l.name
