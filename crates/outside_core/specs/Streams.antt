-- Streams of bytes that are only partly known: what is left of one, what was written to one.
use Rattle.std.specs.Prelude.{◌≡◌, ℕ, ◌≤◌, List, ◌++◌, Option, take, drop, length, option_map}

-- A prefix of the stream is gone, and the rest is left.
abbrev pub LosesPrefix : Option (List ℕ) → Option (List ℕ) → Type 0
LosesPrefix before now = (gone : ℕ) × (now ≡ option_map (drop gone) before)

-- A prefix of the text was written, and nothing else.
abbrev pub GainsPrefix : Option (List ℕ) → Option (List ℕ) → List ℕ → Type 0
GainsPrefix before now text = (n : ℕ) × (n ≤ length text)
    × (now ≡ option_map (λ w. w ++ take n text) before)
