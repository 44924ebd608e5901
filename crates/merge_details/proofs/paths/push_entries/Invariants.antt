use Rattle.std.proofs.Common.{◌≡◌, ◌++◌, drop, map}
use Rattle.vault_model.specs.SeenNodes.{entry_row}
use Rattle.merge_details.specs.PathTables.{entry_path}
use Rattle.merge_details.proofs.paths.push_entries.Given as goal

-- what is gathered, with what is left, is all
abbrev pub invariant-loop-entry : goal.invariant-loop-entry
invariant-loop-entry l =
    l.initial.rows.items ++ map (entry_path l.above) (map entry_row l.entries)
    ≡ l.rows.items ++ map (entry_path l.above) (map entry_row (drop l.entry-index l.entries))
