-- What a BLAKE2b hasher holds of a message that it is fed piece by piece.
use Rattle.std.specs.Prelude.{◌≡◌, ℕ, ◌+◌, ◌*◌, List, length, take, drop}
use Rattle.argon_core.specs.Blake2b.{blocks_before_last, state_after}
use Rattle.argon_core.specs.declared.blake.Hasher.{Hasher}

-- the first n blocks of this message are in the state of the hasher, which was begun for a digest
-- of this size, and what follows them is in its buffer
pub record HasAbsorbedFrom (size : ℕ) (hasher : Hasher) (message : List ℕ) (n : ℕ) : Type 0 where
  pub counted : hasher.absorbed ≡ 128 * n
  pub whole : hasher.absorbed + hasher.filled ≡ length message
  pub state : hasher.state ≡ state_after size message n
  pub last : take hasher.filled hasher.buffer ≡ drop hasher.absorbed message

-- the hasher was fed this message: all blocks before the last are in its state
abbrev pub HasAbsorbed : ℕ → Hasher → List ℕ → Type 0
HasAbsorbed size hasher message = HasAbsorbedFrom size hasher message (blocks_before_last message)
