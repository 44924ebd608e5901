use Rattle.std.proofs.Common.{◌≡◌, drop, map}
use Rattle.vault_making.specs.NeededVersion as spec
use Rattle.vault_model.specs.SeenNodes.{entry_row}
use Rattle.vault_making.proofs.file_version.entries_need.Given as goal

abbrev pub invariant-loop-entry : goal.invariant-loop-entry
invariant-loop-entry l =
    spec.later l.needed (spec.latest_needed spec.entry_needs (map entry_row (drop l.entry-index l.entries)))
    ≡ spec.latest_needed spec.entry_needs (map entry_row l.entries)
