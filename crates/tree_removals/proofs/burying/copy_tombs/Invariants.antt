use Rattle.std.proofs.Common.{◌≡◌, ◌++◌, drop}
use Rattle.tree_removals.proofs.burying.copy_tombs.Given as goal

-- the copy and the tombstones that are left are all
abbrev pub invariant-loop-tomb : goal.invariant-loop-tomb
invariant-loop-tomb l = l.copy ++ drop l.tomb-index l.tombs ≡ l.tombs
