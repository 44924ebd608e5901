use Rattle.std.proofs.Common.{◌≡◌, ℕ, ◌<◌, ◌/◌, ◌%◌, slice_index}
use Rattle.std.specs.Int.{w32, to_le_bytes}
use Rattle.stream_core.specs.Lanes.{lane_word}
use Rattle.stream_core.proofs.window.put_blocks.Given as goal

abbrev pub invariant-rows : goal.invariant-rows
invariant-rows l = (i : ℕ) → i < 256 → i % 64 / 16 < l.q
    → slice_index l.window i ≡ slice_index (to_le_bytes w32 (lane_word l.words (i / 64) (i % 64 / 4))) (i % 4)
