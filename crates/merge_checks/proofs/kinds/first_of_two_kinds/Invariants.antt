use Rattle.std.proofs.Common.{◌≡◌, drop}
use Rattle.merge_core.specs.Marking.{first_such}
use Rattle.merge_tables.specs.Databases.{databases}
use Rattle.merge_checks.specs.Clashes.{is_of_two_kinds}
use Rattle.merge_checks.proofs.kinds.first_of_two_kinds.Given as goal

abbrev pub invariant-loop-id : goal.invariant-loop-id
invariant-loop-id l = first_such (is_of_two_kinds (databases l.copies)) l.known ≡ first_such (is_of_two_kinds (databases l.copies)) (drop l.id-index l.known)
