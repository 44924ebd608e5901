use Rattle.std.proofs.Common.{◌≡◌, map, drop}
use Rattle.vault_model.specs.SeenNodes.{entry_row}
use Rattle.merge_changes.specs.Equality.{same_all, same_entry}
use Rattle.merge_changes.proofs.equality.same_entries.Given as goal

abbrev pub invariant-loop-at : goal.invariant-loop-at
invariant-loop-at l = same_all same_entry (map entry_row l.first) (map entry_row l.second) ≡ same_all same_entry (map entry_row (drop l.at l.first)) (map entry_row (drop l.at l.second))
