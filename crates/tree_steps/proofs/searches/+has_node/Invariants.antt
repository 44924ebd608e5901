use Rattle.std.proofs.Common.{◌≡◌, drop}
use Rattle.std.specs.List.{list_any}
use Rattle.std.specs.Prelude.{map}
use Rattle.vault_model.specs.Db.{NodeId}
use Rattle.vault_model.specs.Join.{is_id}
use Rattle.vault_model.specs.SeenNodes.{entry_row, tree_seen}
use Rattle.vault_model.specs.Shape.{EntryRecord}
use Rattle.vault_model.specs.Tree.{all_trees, node_ids_all}
use Rattle.tree_steps.proofs.searches.+has_node.Given as goal

abbrev pub invariant-loop-entry : goal.invariant-loop-entry
invariant-loop-entry l =
    list_any (is_id l.id) (map (λ (e : NodeId × EntryRecord). e.0) (map entry_row (drop l.entry-index l.entry-items)))
    ≡ list_any (is_id l.id) (map (λ (e : NodeId × EntryRecord). e.0) (map entry_row l.entry-items))

abbrev pub invariant-loop-child : goal.invariant-loop-child
invariant-loop-child l =
    list_any (is_id l.id) (node_ids_all (all_trees (map tree_seen (drop l.child-index l.child-items))))
    ≡ list_any (is_id l.id) (node_ids_all (all_trees (map tree_seen l.child-items)))
