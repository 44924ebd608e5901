-- A text without a prefix, and a text in two parts around `=`.
use Rattle.std.specs.Prelude.{ℕ, ◌==◌, if◌then◌else◌, List, [], ◌∷◌, Option, None, Some}

-- What follows a prefix of a text, where the text begins so.
abbrev pub strip_prefix : List ℕ → List ℕ → Option (List ℕ)
strip_prefix [] text = Some text
strip_prefix (b ∷ bs) [] = None
strip_prefix (b ∷ bs) (c ∷ cs) = if c == b then strip_prefix bs cs else None

-- What comes before the first `=` of a text, which may be all of it.
abbrev pub before_sign : List ℕ → List ℕ
before_sign [] = []
before_sign (b ∷ bs) = if b == 61 then [] else b ∷ before_sign bs

-- What comes after the first `=` of a text, where there is one.
abbrev pub after_sign : List ℕ → Option (List ℕ)
after_sign [] = None
after_sign (b ∷ bs) = if b == 61 then Some bs else after_sign bs
