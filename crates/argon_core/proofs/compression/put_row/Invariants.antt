use Rattle.std.proofs.Common.{◌≡◌, ◌≢◌, ℕ, ◌+◌, ◌*◌, ◌/◌, ◌<◌, length, slice_index}
use Rattle.argon_core.proofs.compression.put_row.Given as goal

abbrev pub invariant-words : goal.invariant-words
invariant-words l = record {
  here : (k : ℕ) → k < l.k → slice_index l.block (16 * l.r + k) ≡ slice_index l.words k;
  others : (i : ℕ) → i / 16 ≢ l.r → slice_index l.block i ≡ slice_index l.fn.block i;
  len : length l.block ≡ 128;
}
