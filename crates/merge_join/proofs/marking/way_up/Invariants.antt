use Rattle.std.proofs.Common.{◌≡◌, ◌+◌}
use Rattle.vault_model.specs.Join.{above}
use Rattle.merge_tables.specs.Databases.{databases}
use Rattle.merge_core.specs.Marking.{climb, is_marked}
use Rattle.merge_join.proofs.marking.way_up.Given as goal

abbrev pub invariant-loop-left : goal.invariant-loop-left
invariant-loop-left l =
    (climb (is_marked l.marked) (above (databases l.members)) 0 l.limit l.fn.from ≡ climb (is_marked l.marked) (above (databases l.members)) l.taken l.left l.at)
    × (l.taken + l.left ≡ l.limit)

abbrev pub decreases-loop-left : goal.decreases-loop-left
decreases-loop-left l = l.left
