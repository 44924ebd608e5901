use Rattle.std.proofs.Common.{◌≡◌, ◌++◌}
use Rattle.vault_model.specs.Join.{trail}
use Rattle.merge_tables.specs.Databases.{databases}
use Rattle.merge_checks.proofs.cycles.push_trail.Given as goal

abbrev pub invariant-loop-left : goal.invariant-loop-left
invariant-loop-left l = trail (databases l.copies) l.count l.fn.from ≡ l.nodes.items ++ trail (databases l.copies) l.left l.at

abbrev pub decreases-loop-left : goal.decreases-loop-left
decreases-loop-left l = l.left
