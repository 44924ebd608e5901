use Rattle.std.proofs.Common.{◌≡◌, drop, not}
use Rattle.std.specs.List.{list_all}
use Rattle.vault_model.specs.Join.{is_id}
use Rattle.vault_model.specs.declared.nodes.Tombstone.{Tombstone}
use Rattle.tree_steps.proofs.searches.is_free.Given as goal

abbrev pub invariant-loop-tomb : goal.invariant-loop-tomb
invariant-loop-tomb l =
    list_all (λ (t : Tombstone). not (is_id t.id l.id)) (drop l.tomb-index l.tomb-items) ≡ list_all (λ (t : Tombstone). not (is_id t.id l.id)) l.tomb-items
