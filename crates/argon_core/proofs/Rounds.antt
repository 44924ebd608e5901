-- One more round of BLAKE2b.
use Rattle.std.proofs.Common.{◌≡◌, ℕ, suc, List}
use Rattle.argon_core.specs.Blake2b.{column_step, diagonal_step, ordered, rounds}

-- the local vector w is one round after v, with the message words o in the round's order
pub round_next : (m s v o w : List ℕ) (n : ℕ) → v ≡ rounds m n s → o ≡ ordered m n → w ≡ diagonal_step o (column_step o v) → w ≡ rounds m (suc n) s
unfolding rounds
round_next m s v o w n before order after = rw (after, order, before)
