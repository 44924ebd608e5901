-- How blocks are packed into slices.
use Rattle.std.specs.Prelude.{ℕ, ◌+◌, ◌-◌, ◌*◌, ◌/◌, ◌%◌, ◌^◌, bit_and, bit_or}

-- two bytes of which the upper groups of k bits of the first and the lower groups of the second
-- change places, where the mask has the lower groups: the first byte
abbrev pub swapped_low : ℕ → ℕ → ℕ → ℕ → ℕ
swapped_low k mask a b = bit_or (bit_and a mask) (bit_and b mask * 2 ^ k % 256)

-- the second byte
abbrev pub swapped_high : ℕ → ℕ → ℕ → ℕ → ℕ
swapped_high k mask a b = bit_or (bit_and (a / 2 ^ k) mask) (bit_and b (255 - mask))

-- the number a with the bit of value k that b has
abbrev pub crossed_place : ℕ → ℕ → ℕ → ℕ
crossed_place k a b = a - k * (a / k % 2) + k * (b / k % 2)

-- the place of a byte where columns are rows
abbrev pub by_rows : ℕ → ℕ
by_rows i = 4 * (i % 4) + i / 4
