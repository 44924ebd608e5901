use Rattle.std.proofs.Common.{◌≡◌, ◌++◌, drop, map}
use Rattle.vault_model.specs.Db.{NodeId}
use Rattle.vault_model.specs.SeenNodes.{entry_row}
use Rattle.vault_model.specs.Shape.{EntryRecord}
use Rattle.doc_resolving.proofs.ids.push_entry_ids.Given as goal

-- what is pushed, with what is left, is all
abbrev pub invariant-loop-entry : goal.invariant-loop-entry
invariant-loop-entry l =
    l.initial.ids.items ++ map (λ (e : NodeId × EntryRecord). e.0) (map entry_row l.entries)
    ≡ l.ids.items ++ map (λ (e : NodeId × EntryRecord). e.0) (map entry_row (drop l.entry-index l.entries))
