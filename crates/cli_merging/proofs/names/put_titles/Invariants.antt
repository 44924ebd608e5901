use Rattle.std.proofs.Common.{◌≡◌, map, drop}
use Rattle.vault_model.specs.SeenNodes.{entry_row}
use Rattle.cli_merging.specs.Names.{with_titles}
use Rattle.cli_merging.proofs.names.put_titles.Given as goal

abbrev pub invariant-loop-entry : goal.invariant-loop-entry
invariant-loop-entry l =
    with_titles (map entry_row (drop l.entry-index l.entries)) l.names ≡ with_titles (map entry_row l.entries) l.fn.names
