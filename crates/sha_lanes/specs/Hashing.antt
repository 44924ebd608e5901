-- What a contract sees of four hashes that are being computed: what each message is so far.
use Rattle.std.specs.Prelude.{◌≡◌, ℕ, ◌-◌, ◌/◌, ◌%◌, List, ◌∷◌, ◌++◌, length, replicate}
use Rattle.std.specs.Int.{w64, to_be_bytes}
use Rattle.sha2.specs.Sha256.{hash_after, initial_hash_256}
use Rattle.sha_lanes.specs.Lanes.{state_lane}

-- so far message j is this one, which is whole blocks
pub record HasTaken (states : List (List ℕ)) (j : ℕ) (message : List ℕ) : Type 0 where
  pub whole : length message % 64 ≡ 0
  pub state : state_lane states j
      ≡ hash_after initial_hash_256 message (length message / 64)

-- the padding of a message of so many bits, of which so many bytes are after its whole blocks (FIPS
-- 180-4, 5.1.1)
abbrev pub padding_after : ℕ → ℕ → List ℕ
padding_after used bits = 0x80 ∷ replicate ((119 - used % 64) % 64) 0 ++ to_be_bytes w64 bits

-- the last blocks of a message of so many bits: its last bytes and the padding
abbrev pub last_blocks : List ℕ → ℕ → List ℕ
last_blocks tail bits = tail ++ padding_after (length tail) bits
