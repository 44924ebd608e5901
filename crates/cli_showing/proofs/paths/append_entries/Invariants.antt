use Rattle.std.proofs.Common.{◌≡◌, ◌++◌, drop}
use Rattle.std.specs.BTreeSet.{contains}
use Rattle.std.specs.Prelude.{map}
use Rattle.vault_model.specs.Db.{id_cmp}
use Rattle.vault_model.specs.SeenNodes.{entry_row}
use Rattle.cli_showing.specs.inside.Walking.{entry_lines}
use Rattle.cli_showing.proofs.paths.append_entries.Given as goal

abbrev pub invariant-loop-entry : goal.invariant-loop-entry
invariant-loop-entry l =
    l.text.bytes ++ entry_lines (contains id_cmp l.ids) l.front (map entry_row (drop l.entry-index l.entries))
    ≡ l.fn.text.bytes ++ entry_lines (contains id_cmp l.ids) l.front (map entry_row l.entries)
