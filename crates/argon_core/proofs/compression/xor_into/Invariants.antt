use Rattle.std.proofs.Common.{◌≡◌, ℕ, ◌<◌, ◌≤◌, bit_xor, length, slice_index}
use Rattle.argon_core.proofs.compression.xor_into.Given as goal

abbrev pub invariant-words : goal.invariant-words
invariant-words l = record {
  done : (i : ℕ) → i < l.i → slice_index l.block i ≡ bit_xor (slice_index l.fn.block i) (slice_index l.other i);
  left : (i : ℕ) → l.i ≤ i → slice_index l.block i ≡ slice_index l.fn.block i;
  len : length l.block ≡ 128;
}
