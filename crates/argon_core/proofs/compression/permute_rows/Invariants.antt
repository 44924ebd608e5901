use Rattle.std.proofs.Common.{◌≡◌, ℕ, ◌/◌, ◌%◌, ◌<◌, ◌≤◌, length, slice_index}
use Rattle.argon_core.specs.Compression.{permutation, row}
use Rattle.argon_core.proofs.compression.permute_rows.Given as goal

abbrev pub invariant-rows : goal.invariant-rows
invariant-rows l = record {
  done : (i : ℕ) → i / 16 < l.r → slice_index l.block i ≡ slice_index (permutation (row l.fn.block (i / 16))) (i % 16);
  left : (i : ℕ) → l.r ≤ i / 16 → slice_index l.block i ≡ slice_index l.fn.block i;
  len : length l.block ≡ 128;
}
