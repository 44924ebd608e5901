use Rattle.std.proofs.Common.{◌≡◌, ◌++◌, map, drop}
use Rattle.vault_model.specs.Db.{NodeId}
use Rattle.vault_model.specs.SeenNodes.{entry_row}
use Rattle.vault_model.specs.Shape.{EntryRecord}
use Rattle.merge_shapes.proofs.nodes.push_entry_ids.Given as goal

abbrev pub invariant-loop-entry : goal.invariant-loop-entry
invariant-loop-entry l =
    l.ids.items ++ map (λ (e : NodeId × EntryRecord). e.0) (map entry_row (drop l.entry-index l.entries))
    ≡ map (λ (e : NodeId × EntryRecord). e.0) (map entry_row l.entries)
