use Rattle.std.proofs.Common.{◌≡◌}
use Rattle.std.specs.List.{list_any}
use Rattle.vault_model.specs.Join.{is_id, trail}
use Rattle.merge_tables.specs.Databases.{databases}
use Rattle.merge_parts.proofs.nodes.is_on_trail.Given as goal

abbrev pub invariant-loop-left : goal.invariant-loop-left
invariant-loop-left l = list_any (is_id l.id) (trail (databases l.members) l.steps l.fn.from) ≡ list_any (is_id l.id) (trail (databases l.members) l.left l.at)

abbrev pub decreases-loop-left : goal.decreases-loop-left
decreases-loop-left l = l.left
