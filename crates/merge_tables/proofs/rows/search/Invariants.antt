use Rattle.std.proofs.Common.{◌≡◌, drop}
use Rattle.merge_tables.specs.RowPositions.{position_of, further}
use Rattle.merge_tables.proofs.rows.search.Given as goal

abbrev pub invariant-loop-at : goal.invariant-loop-at
invariant-loop-at g l = position_of g.K.Ord.cmp l.key l.rows ≡ further l.at (position_of g.K.Ord.cmp l.key (drop l.at l.rows))
