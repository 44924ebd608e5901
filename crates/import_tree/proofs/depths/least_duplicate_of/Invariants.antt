use Rattle.std.proofs.Common.{◌≤◌, length}
use Rattle.doc_resolving.proofs.IdSets.{SetFrom}
use Rattle.import_tree.proofs.depths.least_duplicate_of.Given as goal

-- the set has the ids from the position on
abbrev pub invariant-loop-at : goal.invariant-loop-at
invariant-loop-at l = record { within : l.at ≤ length l.ids; known : SetFrom l.ids l.at l.duplicate l.set }

abbrev pub decreases-loop-at : goal.decreases-loop-at
decreases-loop-at l = l.at
