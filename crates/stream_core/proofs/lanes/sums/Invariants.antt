use Rattle.std.proofs.Common.{◌≡◌, ℕ, ◌<◌, length}
use Rattle.stream_core.specs.Words.{add32}
use Rattle.stream_core.specs.Lanes.{lane_word}
use Rattle.stream_core.proofs.lanes.sums.Given as goal

abbrev pub invariant-words : goal.invariant-words
invariant-words l = (length l.out ≡ 16) × ((j i : ℕ) → j < 4 → i < l.i
    → lane_word l.out j i ≡ add32 (lane_word l.states j i) (lane_word l.first j i))
