-- What is left of a text at a place: the answers from there on.
use Rattle.std.specs.Prelude.{ℕ, ◌+◌, ◌≡◌, ◌≢◌, Bool, false, List, [], ◌∷◌, drop}
use Rattle.markup_grammar.specs.Answers.{Answer}
use Rattle.markup_grammar.specs.Machine.{State, answers_from}

-- the answers that a state gives from this place of the text on
unfoldable pub answers_at : List ℕ → State → ℕ → List Answer
answers_at text state at = answers_from state at (drop at text)

-- this byte is at the place
abbrev pub StandsAt : List ℕ → ℕ → ℕ → Type 0
StandsAt text at b = drop at text ≡ b ∷ drop (at + 1) text

-- the bytes do not begin with this one
abbrev pub BeginsWithout : ℕ → List ℕ → Type 0
BeginsWithout byte [] = Unit {0}
BeginsWithout byte (b ∷ bs) = b ≢ byte

-- the bytes do not begin with one that passes
abbrev pub FailsFirst : (ℕ → Bool) → List ℕ → Type 0
FailsFirst test [] = Unit {0}
FailsFirst test (b ∷ bs) = test b ≡ false
