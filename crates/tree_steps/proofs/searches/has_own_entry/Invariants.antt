use Rattle.std.proofs.Common.{◌≡◌, drop}
use Rattle.std.specs.Prelude.{find, is_some, map}
use Rattle.vault_model.specs.Db.{NodeId}
use Rattle.vault_model.specs.Join.{is_id}
use Rattle.vault_model.specs.SeenNodes.{entry_row}
use Rattle.vault_model.specs.Shape.{EntryRecord}
use Rattle.tree_steps.proofs.searches.has_own_entry.Given as goal

abbrev pub invariant-loop-entry : goal.invariant-loop-entry
invariant-loop-entry l =
    is_some (find (λ (e : NodeId × EntryRecord). is_id e.0 l.id) (map entry_row (drop l.entry-index l.entries))) ≡ is_some (find (λ (e : NodeId × EntryRecord). is_id e.0 l.id) (map entry_row l.entries))
