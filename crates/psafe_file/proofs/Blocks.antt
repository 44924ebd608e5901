-- The whole blocks of bytes.
use Rattle.std.proofs.Common.{◌≡◌, ℕ, zero, suc, List, ◌∷◌, take, drop, refl, ap}
use Rattle.std.specs.Simd.{first_chunks}
use Rattle.block_core.specs.Cbc.{blocks}

-- The first chunks of 16 bytes are the first blocks.
pub chunks_are_blocks : (n : ℕ) (bytes : List ℕ) → first_chunks 16 n bytes ≡ blocks n bytes
unfolding blocks
chunks_are_blocks zero bytes = refl
chunks_are_blocks (suc n) bytes = ap (λ bs. take 16 bytes ∷ bs) (chunks_are_blocks n (drop 16 bytes))
