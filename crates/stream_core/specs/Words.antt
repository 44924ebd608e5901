-- Words of 32 bits and their bytes, as ChaCha20 and Salsa20 read and write them.
use Rattle.std.specs.Prelude.{ℕ, ◌+◌, ◌*◌, ◌/◌, ◌%◌, ◌^◌, List, [], ◌∷◌, slice_index}
use Rattle.std.specs.Int.{w32, from_le_bytes, to_le_bytes}

-- the sum of two words without its carry
abbrev pub add32 : ℕ → ℕ → ℕ
add32 x y = (x + y) % 2 ^ 32

-- word i of a list of bytes, low byte first
abbrev pub word_at : List ℕ → ℕ → ℕ
word_at bytes i = from_le_bytes w32
    (slice_index bytes (4 * i) ∷ slice_index bytes (4 * i + 1)
    ∷ slice_index bytes (4 * i + 2) ∷ slice_index bytes (4 * i + 3) ∷ [])

-- the byte at a place of a stream of blocks of sixteen words, low byte first: `word counter i` is
-- word i of the block with that number
abbrev pub byte_in : (ℕ → ℕ → ℕ) → ℕ → ℕ
byte_in word place = slice_index (to_le_bytes w32 (word (place / 64) (place % 64 / 4))) (place % 4)
