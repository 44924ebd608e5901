use Rattle.std.proofs.Common.{◌≡◌, drop}
use Rattle.merge_changes.specs.Changes.{same_use}
use Rattle.merge_changes.specs.Equality.{same_all}
use Rattle.merge_changes.proofs.changes.are_rows_same.Given as goal

abbrev pub invariant-loop-at : goal.invariant-loop-at
invariant-loop-at l = same_all same_use l.first l.second ≡ same_all same_use (drop l.at l.first) (drop l.at l.second)
