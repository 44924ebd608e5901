-- Bits that change places between two bytes, and bytes from their bits.
use Rattle.std.proofs.Common.{◌≡◌, ℕ, ◌<◌, ◌+◌, ◌-◌, ◌*◌, ◌/◌, ◌%◌, ◌^◌, Bool, true, false, if◌then◌else◌, ◌==◌, List, [], ◌∷◌, length, map, slice_index, refl, ap, ap₂, sym, ◌∙◌, arith, max, bit_and}
use Rattle.std.specs.List.{range_with_len}
use Rattle.std.specs.Int.{bit_at}
use Rattle.std.proofs.lemmas.Nat.Bits.{bit_at_or}
use Rattle.aes_slices.specs.Packing.{swapped_low, swapped_high, crossed_place, by_rows}
use Rattle.aes_slices.specs.Slices.{from_bits, cell_bit, cell, block}
use Rattle.aes_slices.proofs.BitLemmas.{from_table, from_bits_same}
use Rattle.aes_slices.proofs.SliceLemmas.{below_sixteen}

abbrev pub sixteen : (ℕ → ℕ) → List ℕ
sixteen f = f 0 ∷ f 1 ∷ f 2 ∷ f 3 ∷ f 4 ∷ f 5 ∷ f 6 ∷ f 7 ∷ f 8 ∷ f 9 ∷ f 10 ∷ f 11 ∷ f 12 ∷ f 13 ∷ f 14 ∷ f 15 ∷ []

-- a list of sixteen is the list of its sixteen elements
pub sixteen_same : (s : List ℕ) → length s ≡ 16 → sixteen (slice_index s) ≡ s
sixteen_same (a0 ∷ a1 ∷ a2 ∷ a3 ∷ a4 ∷ a5 ∷ a6 ∷ a7 ∷ a8 ∷ a9 ∷ aa ∷ ab ∷ ac ∷ ad ∷ ae ∷ af ∷ []) h = refl
sixteen_same _ h = absurd (omega arith)

-- a function of two vectors that computes lane by lane
pub lanes_of_two : (whole : List ℕ → List ℕ → List ℕ) (one : ℕ → ℕ → ℕ)
    → ((a b : ℕ → ℕ) → whole (sixteen a) (sixteen b) ≡ sixteen (λ l. one (a l) (b l)))
    → (x y : List ℕ) → length x ≡ 16 → length y ≡ 16 → (l : ℕ) → l < 16 → slice_index (whole x y) l ≡ one (slice_index x l) (slice_index y l)
lanes_of_two whole one same x y long_x long_y l lane =
    ap (λ z. slice_index z l) ((λ i. whole (sym (sixteen_same x long_x) i) (sym (sixteen_same y long_y) i)) ∙ same (slice_index x) (slice_index y))
    ∙ below_sixteen (λ k. slice_index (sixteen (λ l. one (slice_index x l) (slice_index y l))) k ≡ one (slice_index x k) (slice_index y k))
    refl refl refl refl refl refl refl refl refl refl refl refl refl refl refl refl l lane

-- ---- bits by tables

-- two functions of a byte and a place in it that have one table
abbrev IsTable : (ℕ → ℕ → ℕ) → (ℕ → ℕ → ℕ) → Type 0
IsTable f g = map (λ a. map (f a) (range_with_len 0 8)) (range_with_len 0 256) ≡ map (λ a. map (g a) (range_with_len 0 8)) (range_with_len 0 256)

from_bit_table : (f g : ℕ → ℕ → ℕ) → IsTable f g → (a : ℕ) → a < 256 → (j : ℕ) → j < 8 → f a j ≡ g a j
from_bit_table f g table a h =
    from_table 0 (f a) (g a) 8 (from_table [] (λ a. map (f a) (range_with_len 0 8)) (λ a. map (g a) (range_with_len 0 8)) 256 table a h)

choice_of_max : (t : Bool) (x y : ℕ) → max (if t then x else 0) (if t then 0 else y) ≡ (if t then x else y)
choice_of_max true x y = omega arith
choice_of_max false x y = omega arith

module _ (k mask : ℕ) where
  -- the bits of two bytes whose bits have changed places
  abbrev pub low_choice : ℕ → ℕ → ℕ → ℕ
  low_choice a b j = if j / k % 2 == 0 then bit_at a j else bit_at b (j - k)

  abbrev pub high_choice : ℕ → ℕ → ℕ → ℕ
  high_choice a b j = if j / k % 2 == 0 then bit_at a (j + k) else bit_at b j

  abbrev pub LowRow : ℕ → ℕ → ℕ → Type 0
  LowRow a b r = r ≡ swapped_low k mask a b → a < 256 → b < 256 → map (bit_at r) (range_with_len 0 8) ≡ map (low_choice a b) (range_with_len 0 8)

  abbrev pub HighRow : ℕ → ℕ → ℕ → Type 0
  HighRow a b r = r ≡ swapped_high k mask a b → a < 256 → b < 256 → map (bit_at r) (range_with_len 0 8) ≡ map (high_choice a b) (range_with_len 0 8)

  row : (f g : ℕ → ℕ) → ((j : ℕ) → j < 8 → f j ≡ g j) → map f (range_with_len 0 8) ≡ map g (range_with_len 0 8)
  row f g each = λ i. each 0 (omega arith) i ∷ each 1 (omega arith) i ∷ each 2 (omega arith) i ∷ each 3 (omega arith) i
      ∷ each 4 (omega arith) i ∷ each 5 (omega arith) i ∷ each 6 (omega arith) i ∷ each 7 (omega arith) i ∷ []

  -- what each byte gives, and which bits those are
  abbrev low_kept : ℕ → ℕ → ℕ
  low_kept a j = bit_at (bit_and a mask) j

  abbrev low_kept_bit : ℕ → ℕ → ℕ
  low_kept_bit a j = if j / k % 2 == 0 then bit_at a j else 0

  abbrev low_taken : ℕ → ℕ → ℕ
  low_taken b j = bit_at (bit_and b mask * 2 ^ k % 256) j

  abbrev low_taken_bit : ℕ → ℕ → ℕ
  low_taken_bit b j = if j / k % 2 == 0 then 0 else bit_at b (j - k)

  abbrev high_taken : ℕ → ℕ → ℕ
  high_taken a j = bit_at (bit_and (a / 2 ^ k) mask) j

  abbrev high_taken_bit : ℕ → ℕ → ℕ
  high_taken_bit a j = if j / k % 2 == 0 then bit_at a (j + k) else 0

  abbrev high_kept : ℕ → ℕ → ℕ
  high_kept b j = bit_at (bit_and b (255 - mask)) j

  abbrev high_kept_bit : ℕ → ℕ → ℕ
  high_kept_bit b j = if j / k % 2 == 0 then 0 else bit_at b j

  low_row : IsTable low_kept low_kept_bit → IsTable low_taken low_taken_bit → (a b r : ℕ) → LowRow a b r
  low_row kept taken a b r is ha hb =
      row (bit_at r) (low_choice a b) (λ j h. ap (λ x. bit_at x j) is ∙ bit_at_or (bit_and a mask) (bit_and b mask * 2 ^ k % 256) j
      ∙ ap₂ max (from_bit_table low_kept low_kept_bit kept a ha j h) (from_bit_table low_taken low_taken_bit taken b hb j h)
      ∙ choice_of_max (j / k % 2 == 0) (bit_at a j) (bit_at b (j - k)))

  high_row : IsTable high_taken high_taken_bit → IsTable high_kept high_kept_bit → (a b r : ℕ) → HighRow a b r
  high_row taken kept a b r is ha hb =
      row (bit_at r) (high_choice a b) (λ j h. ap (λ x. bit_at x j) is ∙ bit_at_or (bit_and (a / 2 ^ k) mask) (bit_and b (255 - mask)) j
      ∙ ap₂ max (from_bit_table high_taken high_taken_bit taken a ha j h) (from_bit_table high_kept high_kept_bit kept b hb j h)
      ∙ choice_of_max (j / k % 2 == 0) (bit_at a (j + k)) (bit_at b j))

pub bits_low : (a b r : ℕ) → LowRow 1 0x55 a b r
bits_low = low_row 1 0x55 refl refl

pub bits_high : (a b r : ℕ) → HighRow 1 0x55 a b r
bits_high = high_row 1 0x55 refl refl

pub pairs_low : (a b r : ℕ) → LowRow 2 0x33 a b r
pairs_low = low_row 2 0x33 refl refl

pub pairs_high : (a b r : ℕ) → HighRow 2 0x33 a b r
pairs_high = high_row 2 0x33 refl refl

pub halves_low : (a b r : ℕ) → LowRow 4 0x0f a b r
halves_low = low_row 4 0x0f refl refl

pub halves_high : (a b r : ℕ) → HighRow 4 0x0f a b r
halves_high = high_row 4 0x0f refl refl

-- a byte is the number of its bits
pub byte_by_bits : (k : ℕ) → k < 256 → from_bits (bit_at k) 8 ≡ k
unfolding from_bits
byte_by_bits = from_table 0 (λ k. from_bits (bit_at k) 8) (λ k. k) 256 refl

pub byte_with_bits : (k : ℕ) (f : ℕ → ℕ) → k < 256 → ((b : ℕ) → b < 8 → bit_at k b ≡ f b) → k ≡ from_bits f 8
byte_with_bits k f h each = sym (byte_by_bits k h) ∙ from_bits_same (bit_at k) f 8 each

-- ---- vectors and bits exchanged

abbrev pub crossed_twice : ℕ → ℕ → ℕ
crossed_twice a b = crossed_place 2 (crossed_place 4 a b) (crossed_place 4 b a)

pub crossed_thrice : (a : ℕ) → a < 8 → (b : ℕ) → b < 8 → crossed_place 1 (crossed_twice a b) (crossed_twice b a) ≡ b
crossed_thrice a h =
    from_table 0 (λ b. crossed_place 1 (crossed_twice a b) (crossed_twice b a)) (λ b. b) 8
    (from_table [] (λ a. map (λ b. crossed_place 1 (crossed_twice a b) (crossed_twice b a)) (range_with_len 0 8)) (λ a. range_with_len 0 8) 8 refl a h)

-- two lists of sixteen that agree at each place
sixteen_paths : (f g : ℕ → ℕ) → ((i : ℕ) → i < 16 → f i ≡ g i) → sixteen f ≡ sixteen g
sixteen_paths f g each = λ k.
    each 0 (omega arith) k ∷ each 1 (omega arith) k ∷ each 2 (omega arith) k ∷ each 3 (omega arith) k
    ∷ each 4 (omega arith) k ∷ each 5 (omega arith) k ∷ each 6 (omega arith) k ∷ each 7 (omega arith) k
    ∷ each 8 (omega arith) k ∷ each 9 (omega arith) k ∷ each 10 (omega arith) k ∷ each 11 (omega arith) k
    ∷ each 12 (omega arith) k ∷ each 13 (omega arith) k ∷ each 14 (omega arith) k ∷ each 15 (omega arith) k ∷ []

-- a block of slices, where each byte of a vector has the bits of its cell
pub block_by_bits : (s : List (List ℕ)) (j : ℕ) (vector : List ℕ) → length vector ≡ 16
    → ((i : ℕ) → i < 16 → slice_index vector i < 256)
    → ((i b : ℕ) → i < 16 → b < 8 → bit_at (slice_index vector i) b ≡ cell_bit s j (by_rows i) b)
    → vector ≡ block s j
unfolding cell
block_by_bits s j vector long bytes bits =
    sym (sixteen_same vector long)
    ∙ sixteen_paths (slice_index vector) (λ i. from_bits (cell_bit s j (by_rows i)) 8)
    (λ i h. byte_with_bits (slice_index vector i) (cell_bit s j (by_rows i)) (bytes i h) (λ b. bits i b h))
