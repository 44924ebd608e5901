use Rattle.std.proofs.Common.{◌≡◌, drop}
use Rattle.merge_changes.specs.Equality.{same_all, same_tomb}
use Rattle.merge_changes.proofs.equality.same_tombs.Given as goal

abbrev pub invariant-loop-at : goal.invariant-loop-at
invariant-loop-at l = same_all same_tomb l.first l.second ≡ same_all same_tomb (drop l.at l.first) (drop l.at l.second)
