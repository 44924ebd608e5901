use Rattle.std.proofs.Common.{◌+◌, ◌≤◌, length}
use Rattle.stream_core.specs.InnerStream.{IsAt}
use Rattle.known_answers.proofs.stream_ciphers.apply_in_pieces.Given as goal

abbrev pub invariant-pieces : goal.invariant-pieces
invariant-pieces l = (l.from ≤ length l.text) × IsAt l.stream (l.offset + l.from)
