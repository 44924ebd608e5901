use Rattle.std.proofs.Common.{◌≤◌, length}
use Rattle.tree_edits.proofs.Suffixes.{RoomFrom}
use Rattle.tree_edits.proofs.limits.start_with_room.Given as goal

-- there is room for the versions from here on
abbrev pub invariant-loop-start : goal.invariant-loop-start
invariant-loop-start l = record {
  low : l.least ≤ l.start;
  within : l.start ≤ length l.history;
  room : RoomFrom l.limit l.history l.start l.room;
}

abbrev pub decreases-loop-start : goal.decreases-loop-start
decreases-loop-start l = l.start
