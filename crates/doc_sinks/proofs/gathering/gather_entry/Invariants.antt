use Rattle.std.proofs.Common.{map, take}
use Rattle.std.specs.List.{flat_map}
use Rattle.doc_sinks.specs.Gathering.{Gathers}
use Rattle.doc_spelling.specs.Pool.{version_pairs}
use Rattle.vault_model.specs.SeenNodes.{bare_version}
use Rattle.doc_sinks.proofs.gathering.gather_entry.Given as goal

abbrev pub invariant-loop-version : goal.invariant-loop-version
invariant-loop-version l =
    Gathers l.initial.numbers l.initial.items l.numbers l.items (flat_map version_pairs (map bare_version (take l.version-index l.version-items)))
