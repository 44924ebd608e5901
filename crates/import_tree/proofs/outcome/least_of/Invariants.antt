use Rattle.std.proofs.Common.{◌≡◌, ◌≤◌, drop, length}
use Rattle.import_tree.specs.Outcome.{least_id}
use Rattle.import_tree.proofs.outcome.least_of.Given as goal

-- the least of the ids from the position on
abbrev pub invariant-loop-at : goal.invariant-loop-at
invariant-loop-at l = record { within : l.at ≤ length l.ids; least : l.least ≡ least_id (drop l.at l.ids) }

abbrev pub decreases-loop-at : goal.decreases-loop-at
decreases-loop-at l = l.at
