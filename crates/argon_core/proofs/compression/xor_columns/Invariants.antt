use Rattle.std.proofs.Common.{◌≡◌, ℕ, ◌+◌, ◌*◌, ◌/◌, ◌%◌, ◌<◌, ◌≤◌, bit_xor, length, slice_index}
use Rattle.argon_core.specs.Compression.{permutation, column}
use Rattle.argon_core.proofs.compression.xor_columns.Given as goal

abbrev pub invariant-columns : goal.invariant-columns
invariant-columns l = record {
  done : (i : ℕ) → i < 128 → i % 16 / 2 < l.j → slice_index l.into i ≡ bit_xor (slice_index l.fn.into i) (slice_index (permutation (column l.block (i % 16 / 2))) (2 * (i / 16) + i % 2));
  left : (i : ℕ) → l.j ≤ i % 16 / 2 → slice_index l.into i ≡ slice_index l.fn.into i;
  len : length l.into ≡ 128;
}
