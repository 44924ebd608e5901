use Rattle.std.proofs.Common.{◌≡◌, ◌++◌, drop}
use Rattle.std.specs.Prelude.{map}
use Rattle.vault_model.specs.SeenNodes.{entry_row}
use Rattle.cli_printing.specs.Listing.{title_lines}
use Rattle.cli_printing.proofs.listing.add_titles.Given as goal

abbrev pub invariant-loop-entry : goal.invariant-loop-entry
invariant-loop-entry l =
    l.text ++ title_lines l.ids l.front (map entry_row (drop l.entry-index l.entries)) ≡ l.fn.text ++ title_lines l.ids l.front (map entry_row l.entries)
