use Rattle.std.proofs.Common.{◌≡◌, drop}
use Rattle.std.specs.Prelude.{map}
use Rattle.std.specs.List.{find}
use Rattle.find_references.specs.Fields.{has_at}
use Rattle.vault_model.specs.SeenNodes.{entry_row}
use Rattle.find_references.proofs.seeking.entry_among.Given as goal

abbrev pub invariant-loop-entry : goal.invariant-loop-entry
invariant-loop-entry l =
    find (has_at l.place l.text) (map entry_row (drop l.entry-index l.entries))
    ≡ find (has_at l.place l.text) (map entry_row l.entries)
