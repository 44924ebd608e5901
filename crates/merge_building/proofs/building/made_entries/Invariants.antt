use Rattle.std.proofs.Common.{◌≡◌, ◌++◌, map, drop}
use Rattle.vault_model.specs.SeenNodes.{entry_row}
use Rattle.vault_model.specs.Tree.{with_records}
use Rattle.merge_building.proofs.building.made_entries.Given as goal

abbrev pub invariant-loop-id : goal.invariant-loop-id
invariant-loop-id l =
    map entry_row l.entries ++ with_records l.from.entries (drop l.id-index l.ids) ≡ with_records l.from.entries l.ids
