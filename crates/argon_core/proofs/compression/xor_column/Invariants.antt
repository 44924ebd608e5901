use Rattle.std.proofs.Common.{◌≡◌, ◌≢◌, ℕ, ◌+◌, ◌*◌, ◌/◌, ◌%◌, ◌<◌, ◌≤◌, bit_xor, length, slice_index}
use Rattle.argon_core.proofs.compression.xor_column.Given as goal

abbrev pub invariant-words : goal.invariant-words
invariant-words l = record {
  here : (i : ℕ) → i < 128 → i % 16 / 2 ≡ l.j → 2 * (i / 16) + i % 2 < l.k → slice_index l.block i ≡ bit_xor (slice_index l.fn.block i) (slice_index l.words (2 * (i / 16) + i % 2));
  left : (i : ℕ) → l.k ≤ 2 * (i / 16) + i % 2 → slice_index l.block i ≡ slice_index l.fn.block i;
  others : (i : ℕ) → i % 16 / 2 ≢ l.j → slice_index l.block i ≡ slice_index l.fn.block i;
  len : length l.block ≡ 128;
}
