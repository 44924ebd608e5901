use Rattle.std.proofs.Common.{length, ◌-◌, ◌≤◌, ◌≡◌}
use Rattle.outside_disk.proofs.files.read_from.Given as goal

-- No more was read than there is room for, and the room is as it was.
abbrev pub invariant-loop-read : goal.invariant-loop-read
invariant-loop-read g l = (l.read ≤ length l.out) × (length l.out ≡ length l.initial.out)

abbrev pub decreases-loop-read : goal.decreases-loop-read
decreases-loop-read g l = length l.initial.out - l.read
