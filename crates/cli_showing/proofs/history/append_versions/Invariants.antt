use Rattle.std.proofs.Common.{◌≡◌, ◌++◌, ◌∷◌, drop}
use Rattle.std.specs.Prelude.{map, reverse}
use Rattle.vault_model.specs.SeenNodes.{bare_version, entry_record}
use Rattle.cli_showing.specs.History.{history_text, version_lines}
use Rattle.cli_showing.proofs.history.append_versions.Given as goal

abbrev pub invariant-loop-number : goal.invariant-loop-number
invariant-loop-number l =
    l.text.bytes ++ version_lines l.number (bare_version l.version ∷ drop l.number (reverse (map bare_version l.history)))
    ≡ l.fn.text.bytes ++ history_text (entry_record l.entry)
