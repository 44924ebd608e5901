use Rattle.std.proofs.Common.{map, take}
use Rattle.std.specs.List.{flat_map}
use Rattle.doc_sinks.specs.Gathering.{Gathers}
use Rattle.doc_spelling.specs.Pool.{entry_pairs}
use Rattle.vault_model.specs.SeenNodes.{entry_row}
use Rattle.doc_sinks.proofs.gathering.gather_entries.Given as goal

abbrev pub invariant-loop-entry : goal.invariant-loop-entry
invariant-loop-entry l =
    Gathers l.initial.numbers l.initial.items l.numbers l.items (flat_map entry_pairs (map entry_row (take l.entry-index l.entries)))
