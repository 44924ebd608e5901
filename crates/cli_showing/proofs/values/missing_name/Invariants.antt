use Rattle.std.proofs.Common.{◌≡◌, drop}
use Rattle.std.specs.Prelude.{map}
use Rattle.std.specs.List.{find}
use Rattle.vault_model.specs.Seen.{bare_field}
use Rattle.cli_showing.specs.Showing.{is_missing}
use Rattle.cli_showing.proofs.values.missing_name.Given as goal

abbrev pub invariant-loop-name : goal.invariant-loop-name
invariant-loop-name l =
    find (is_missing (map bare_field l.fields)) (drop l.name-index l.names) ≡ find (is_missing (map bare_field l.fields)) l.names
