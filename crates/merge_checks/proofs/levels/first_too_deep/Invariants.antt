use Rattle.std.proofs.Common.{◌≡◌, drop}
use Rattle.vault_model.specs.Tree.{LEVELS}
use Rattle.merge_core.specs.Marking.{first_such}
use Rattle.merge_core.specs.Refusals.{is_too_deep}
use Rattle.merge_tables.specs.Databases.{databases}
use Rattle.merge_checks.proofs.levels.first_too_deep.Given as goal

abbrev pub invariant-loop-id : goal.invariant-loop-id
invariant-loop-id l =
    first_such (is_too_deep LEVELS (databases l.copies)) l.known ≡ first_such (is_too_deep LEVELS (databases l.copies)) (drop l.id-index l.known)
