-- Four blocks side by side: sixteen vectors of four words, one lane for each block.
use Rattle.std.specs.Prelude.{◌≡◌, ℕ, ◌+◌, ◌-◌, ◌*◌, ◌/◌, ◌%◌, ◌<◌, List, [], ◌∷◌, slice_index, slice_index_or}

-- word i of block j
abbrev pub lane_word : List (List ℕ) → ℕ → ℕ → ℕ
lane_word v j i = slice_index (slice_index_or v i []) j

-- the sixteen words of block j
abbrev pub lane : List (List ℕ) → ℕ → List ℕ
lane v j =
    lane_word v j 0 ∷ lane_word v j 1 ∷ lane_word v j 2 ∷ lane_word v j 3
    ∷ lane_word v j 4 ∷ lane_word v j 5 ∷ lane_word v j 6 ∷ lane_word v j 7
    ∷ lane_word v j 8 ∷ lane_word v j 9 ∷ lane_word v j 10 ∷ lane_word v j 11
    ∷ lane_word v j 12 ∷ lane_word v j 13 ∷ lane_word v j 14 ∷ lane_word v j 15 ∷ []

-- where the bytes of four words come from as each word is rotated left by k bits, which are whole
-- bytes: byte r of a word, from the byte that is k / 8 lower in it, and from its end below byte 0
pub record IsTurn (k : ℕ) (turn : List ℕ) : Type 0 where
  pub whole : k % 8 ≡ 0
  pub short : k < 32
  pub places : (i : ℕ) → i < 16 → slice_index turn i ≡ 4 * (i / 4) + (i % 4 + (4 - k / 8)) % 4

-- those of the rotations by 16 bits and by 8
unfoldable pub AreTurns : List ℕ → List ℕ → Type 0
AreTurns by_16 by_8 = IsTurn 16 by_16 × IsTurn 8 by_8
