-- Four messages side by side: vectors of four words, of which lane j is that of message j.
use Rattle.std.specs.Prelude.{◌≡◌, ℕ, List, [], ◌∷◌, length, map, slice_index, slice_index_or}

-- the words of lane j of some vectors
abbrev pub lane : List (List ℕ) → ℕ → List ℕ
lane vectors j = map (λ v. slice_index v j) vectors

-- the eight words of lane j of a state
abbrev pub state_lane : List (List ℕ) → ℕ → List ℕ
state_lane v j =
    slice_index (slice_index_or v 0 []) j ∷ slice_index (slice_index_or v 1 []) j
    ∷ slice_index (slice_index_or v 2 []) j ∷ slice_index (slice_index_or v 3 []) j
    ∷ slice_index (slice_index_or v 4 []) j ∷ slice_index (slice_index_or v 5 []) j
    ∷ slice_index (slice_index_or v 6 []) j ∷ slice_index (slice_index_or v 7 []) j ∷ []

-- list j of four
abbrev pub one_of : List ℕ → List ℕ → List ℕ → List ℕ → ℕ → List ℕ
one_of a b c d j = slice_index_or (a ∷ b ∷ c ∷ d ∷ []) j []

-- four lists have this length
pub record HaveLength (n : ℕ) (a b c d : List ℕ) : Type 0 where
  pub first : length a ≡ n
  pub second : length b ≡ n
  pub third : length c ≡ n
  pub fourth : length d ≡ n
