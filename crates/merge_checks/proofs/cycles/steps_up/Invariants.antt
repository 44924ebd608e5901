use Rattle.std.proofs.Common.{◌≡◌}
use Rattle.vault_model.specs.Db.{steps}
use Rattle.vault_model.specs.Join.{above}
use Rattle.merge_tables.specs.Databases.{databases}
use Rattle.merge_checks.proofs.cycles.steps_up.Given as goal

abbrev pub invariant-loop-left : goal.invariant-loop-left
invariant-loop-left l = steps (above (databases l.copies)) l.count l.fn.from ≡ steps (above (databases l.copies)) l.left l.at

abbrev pub decreases-loop-left : goal.decreases-loop-left
decreases-loop-left l = l.left
