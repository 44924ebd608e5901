use Rattle.std.proofs.Common.{◌≡◌, ◌<◌, ◌+◌, ◌*◌, ℕ, [], length, slice_index_or}
use Rattle.block_core.proofs.aes.schedule.put_slices.Given as goal

abbrev pub invariant-slices : goal.invariant-slices
invariant-slices l =
    (length l.keys ≡ 120)
    × ((k : ℕ) → k < l.b → slice_index_or l.keys (8 * l.r + k) [] ≡ slice_index_or l.s k [])
    × ((k : ℕ) → k < 8 * l.r → slice_index_or l.keys k [] ≡ slice_index_or l.fn.keys k [])
