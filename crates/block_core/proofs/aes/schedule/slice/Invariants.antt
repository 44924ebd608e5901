use Rattle.std.proofs.Common.{◌≡◌, ◌<◌, ℕ}
use Rattle.aes_slices.specs.Slices.{block}
use Rattle.block_core.specs.Aes.{round_key}
use Rattle.block_core.specs.AesKeys.{slices_at}
use Rattle.block_core.proofs.aes.schedule.slice.Given as goal

abbrev pub invariant-slices : goal.invariant-slices
invariant-slices l = (k : ℕ) → k < l.r → (j : ℕ) → j < 8 → block (slices_at l.keys k) j ≡ round_key l.bytes k
