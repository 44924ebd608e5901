-- Eight blocks of sixteen bytes as eight vectors: vector b has bit b of each byte. Bit j of lane l
-- is that of block j at place l, and the places are row by row.
use Rattle.std.specs.Prelude.{ℕ, zero, suc, ◌+◌, ◌*◌, ◌/◌, ◌%◌, ◌^◌, List, [], ◌∷◌, map, slice_index, slice_index_or, bit_xor}
use Rattle.std.specs.List.{range_with_len}
use Rattle.std.specs.Int.{bit_at}

-- the number whose lowest n bits are these
unfoldable pub from_bits : (ℕ → ℕ) → ℕ → ℕ
from_bits bit zero = 0
from_bits bit (suc n) = from_bits bit n + 2 ^ n * bit n

-- the bits of a byte, the lowest first
abbrev pub bits_of : ℕ → List ℕ
bits_of byte = map (bit_at byte) (range_with_len 0 8)

-- bit b of the byte of block j at place l
abbrev pub cell_bit : List (List ℕ) → ℕ → ℕ → ℕ → ℕ
cell_bit s j l b = bit_at (slice_index (slice_index_or s b []) l) j

-- the byte of block j at place l
unfoldable pub cell : List (List ℕ) → ℕ → ℕ → ℕ
cell s j l = from_bits (cell_bit s j l) 8

-- a byte times x in the field of AES (FIPS 197, 4.2.1)
abbrev pub times_x : ℕ → ℕ
times_x byte = bit_xor (byte * 2) (0x11b * (byte / 128 % 2))

-- a byte mixed with the byte two rows on, as a first step of mixing a column back: a + 4 (a + c)
abbrev pub mixed_before : ℕ → ℕ → ℕ
mixed_before a c = bit_xor a (times_x (times_x (bit_xor a c)))

-- a byte mixed with those of the next three rows: 2 a + 3 b + c + d
abbrev pub mixed_row : ℕ → ℕ → ℕ → ℕ → ℕ
mixed_row a b c d = bit_xor (bit_xor b (bit_xor c d)) (times_x (bit_xor a b))

-- both
abbrev pub mixed_back : ℕ → ℕ → ℕ → ℕ → ℕ
mixed_back a b c d = mixed_row (mixed_before a c) (mixed_before b d) (mixed_before c a)
    (mixed_before d b)

-- block j, column by column
abbrev pub block : List (List ℕ) → ℕ → List ℕ
block s j =
    cell s j 0 ∷ cell s j 4 ∷ cell s j 8 ∷ cell s j 12 ∷ cell s j 1 ∷ cell s j 5 ∷ cell s j 9
    ∷ cell s j 13 ∷ cell s j 2 ∷ cell s j 6 ∷ cell s j 10 ∷ cell s j 14 ∷ cell s j 3 ∷ cell s j 7
    ∷ cell s j 11 ∷ cell s j 15 ∷ []
