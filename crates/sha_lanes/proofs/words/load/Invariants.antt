use Rattle.std.proofs.Common.{◌≡◌, ℕ, ◌*◌, ◌<◌, [], length, slice_index, slice_index_or}
use Rattle.sha2.specs.Sha256.{word_at}
use Rattle.sha_lanes.specs.Lanes.{one_of}
use Rattle.sha_lanes.proofs.words.load.Given as goal

abbrev pub invariant-words : goal.invariant-words
invariant-words l =
    (length l.w ≡ 16) × ((j k : ℕ) → j < 4 → k < l.i → slice_index (slice_index_or l.w k []) j ≡ word_at (one_of l.a l.b l.c l.d j) (4 * k))
