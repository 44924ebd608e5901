-- Fronts of bytes.
use Rattle.std.specs.Prelude.{ℕ, ◌≢◌, List, [], ◌∷◌}

-- the bytes do not begin with this one
abbrev pub DiffersFirst : ℕ → List ℕ → Type 0
DiffersFirst byte [] = Unit {0}
DiffersFirst byte (b ∷ bs) = b ≢ byte
