use Rattle.std.proofs.Common.{map, take}
use Rattle.std.specs.List.{flat_map}
use Rattle.doc_sinks.specs.Gathering.{Gathers}
use Rattle.doc_sinks.proofs.GatheredPairs.{tree_pairs}
use Rattle.vault_model.specs.SeenNodes.{tree_seen}
use Rattle.doc_sinks.proofs.gathering.+gather_group.Given as goal

abbrev pub invariant-loop-below : goal.invariant-loop-below
invariant-loop-below l =
    Gathers l.initial.numbers l.initial.items l.numbers l.items (flat_map tree_pairs (map tree_seen (take l.below-index l.below-items)))
