-- Words of eight bytes side by side: a vector of two words is a register of a block.
use Rattle.std.specs.Prelude.{◌≡◌, ℕ, ◌+◌, ◌*◌, ◌/◌, ◌%◌, ◌<◌, List, [], ◌∷◌, slice_index, slice_index_or}

-- word k of register i
abbrev pub pair_word : List (List ℕ) → ℕ → ℕ → ℕ
pair_word v i k = slice_index (slice_index_or v i []) k

-- the sixteen words of eight registers
abbrev pub words_of : List (List ℕ) → List ℕ
words_of v =
    pair_word v 0 0 ∷ pair_word v 0 1 ∷ pair_word v 1 0 ∷ pair_word v 1 1
    ∷ pair_word v 2 0 ∷ pair_word v 2 1 ∷ pair_word v 3 0 ∷ pair_word v 3 1
    ∷ pair_word v 4 0 ∷ pair_word v 4 1 ∷ pair_word v 5 0 ∷ pair_word v 5 1
    ∷ pair_word v 6 0 ∷ pair_word v 6 1 ∷ pair_word v 7 0 ∷ pair_word v 7 1 ∷ []

-- where the bytes of two words come from as each word is rotated right by k bits, which are whole
-- bytes: byte r of a word, from the byte that is k / 8 higher in it, and from its beginning past
-- its last byte
pub record IsTurn (k : ℕ) (turn : List ℕ) : Type 0 where
  pub whole : k % 8 ≡ 0
  pub short : k < 64
  pub places : (i : ℕ) → i < 16 → slice_index turn i ≡ 8 * (i / 8) + (i % 8 + k / 8) % 8
