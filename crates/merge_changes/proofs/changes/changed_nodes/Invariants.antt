use Rattle.std.proofs.Common.{◌≡◌, ◌++◌, drop}
use Rattle.std.specs.List.{flat_map}
use Rattle.merge_tables.specs.Databases.{database}
use Rattle.merge_changes.specs.Changes.{changes_at}
use Rattle.merge_changes.proofs.changes.changed_nodes.Given as goal

abbrev pub invariant-loop-id : goal.invariant-loop-id
invariant-loop-id l =
    flat_map (changes_at l.older (database l.before) (database l.after)) l.id-items
    ≡ l.changes ++ flat_map (changes_at l.older (database l.before) (database l.after)) (drop l.id-index l.id-items)
