use Rattle.std.proofs.Common.{map, take}
use Rattle.std.specs.List.{find}
use Rattle.find_references.specs.inside.Indexed.{Adds, has_compared}
use Rattle.vault_model.specs.SeenNodes.{entry_row}
use Rattle.find_references.proofs.indexing.add_entries.Given as goal

abbrev pub invariant-loop-entry : goal.invariant-loop-entry
invariant-loop-entry l =
    Adds (λ bytes. find (has_compared l.place bytes) (map entry_row (take l.entry-index l.entries))) l.initial.index l.index
