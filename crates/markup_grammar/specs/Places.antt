-- Where the pieces of a text are: each is the part of the text at its place, and places rise.
use Rattle.std.specs.Prelude.{ℕ, ◌+◌, ◌≡◌, ◌≤◌, ◌⊎◌, List, [], ◌∷◌, ◌++◌, length}
use Rattle.markup_grammar.specs.Answers.{Answer, start, words, stop, finish, form, depth}

-- these bytes are in the text at this place
abbrev pub StandAt : List ℕ → ℕ → List ℕ → Type 0
StandAt text place bytes = (front back : List ℕ) × (text ≡ front ++ (bytes ++ back))
    × (length front ≡ place)

-- `<name` and its raw attributes are at a start's place, the run of text at a words' place, `</` or
-- `/>` at a stop's
abbrev pub IsSlice : List ℕ → Answer → Type 0
IsSlice text (start place name raw) = StandAt text place (60 ∷ (name ++ raw))
IsSlice text (words place raw) = StandAt text place raw
IsSlice text (stop place) = StandAt text place (60 ∷ 47 ∷ []) ⊎ StandAt text place (47 ∷ 62 ∷ [])
IsSlice text finish = Unit {0}
IsSlice text (form place) = place ≤ length text
IsSlice text (depth place) = place ≤ length text

-- so it is of each answer
abbrev pub AreSlices : List ℕ → List Answer → Type 0
AreSlices text [] = Unit {0}
AreSlices text (answer ∷ answers) = IsSlice text answer × AreSlices text answers

-- no place lies below this one, and each piece's lies above that of the piece before it
abbrev pub AreRising : ℕ → List Answer → Type 0
AreRising least [] = Unit {0}
AreRising least (start place name raw ∷ answers) = (least ≤ place) × AreRising (place + 1) answers
AreRising least (words place raw ∷ answers) = (least ≤ place) × AreRising (place + 1) answers
AreRising least (stop place ∷ answers) = (least ≤ place) × AreRising (place + 1) answers
AreRising least (finish ∷ answers) = AreRising least answers
AreRising least (form place ∷ answers) = (least ≤ place) × AreRising least answers
AreRising least (depth place ∷ answers) = (least ≤ place) × AreRising least answers
