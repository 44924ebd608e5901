use Rattle.std.proofs.Common.{◌+◌, ◌≤◌, length}
use Rattle.known_answers.proofs.macs.fed.Given as goal

abbrev pub invariant-pieces : goal.invariant-pieces
invariant-pieces l = l.reader.place + length l.rest ≤ l.fn.reader.place + length l.bytes

abbrev pub decreases-pieces : goal.decreases-pieces
decreases-pieces l = length l.rest
