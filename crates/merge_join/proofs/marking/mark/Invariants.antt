use Rattle.std.proofs.Common.{◌≡◌}
use Rattle.merge_tables.specs.Databases.{databases}
use Rattle.merge_core.specs.Marking.{mark_up}
use Rattle.merge_join.proofs.marking.mark.Given as goal

abbrev pub invariant-loop-left : goal.invariant-loop-left
invariant-loop-left l = mark_up (databases l.members) l.count l.fn.from l.initial.marked ≡ mark_up (databases l.members) l.left l.at l.marked

abbrev pub decreases-loop-left : goal.decreases-loop-left
decreases-loop-left l = l.left
