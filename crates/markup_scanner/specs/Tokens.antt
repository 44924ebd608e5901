-- What is at a place of a text, by the answers that it gives.
use Rattle.std.specs.Prelude.{ℕ, zero, suc, ◌+◌, ◌≡◌, ◌≤◌, List, [], ◌∷◌, slice_range, Result, Ok, Err}
use Rattle.markup_grammar.specs.Answers.{start, words, stop, finish, form}
use Rattle.markup_grammar.specs.Machine.{State, fresh, between, within, behind, level_of_names, Names}
use Rattle.markup_scanner.specs.Asides.{EndsTag, EndsTagOrStays}
use Rattle.markup_scanner.specs.Left.{answers_at, StandsAt}
use Rattle.markup_scanner.specs.Tags.{behind_tag, TagStands}
use Rattle.markup_scanner.specs.declared.token.Token.{Token}
use Rattle.markup_scanner.specs.declared.token.Token.TheVariants.{Start, Words, Stop, End}

-- the state between two tokens, where these elements are open; at place 0 none has been
abbrev pub state_at : ℕ → Names → State
state_at at (name ∷ names) = between (within name names)
state_at zero [] = fresh
state_at (suc at) [] = between behind

-- an end tag leaves the innermost element, of which there must be one
abbrev pub Leaves : List ℕ → Names → State → ℕ → ℕ → ℕ → Type 0
Leaves text [] s at place end = ⊥
Leaves text (name ∷ names) s at place end =
    answers_at text s at ≡ stop place ∷ answers_at text (between (level_of_names names)) end

-- the token is what a state first gives at a place, where these elements are open; or it is refused
-- at a place
abbrev pub Tells : List ℕ → Names → State → ℕ → Result Token ℕ → Type 0
Tells text names s at (Err p) = answers_at text s at ≡ form p ∷ []
Tells text names s at (Ok (Start place tag)) =
    answers_at text s at
    ≡ start place (slice_range text (place + 1) tag.name_end)
    (slice_range text tag.name_end tag.attrs_end)
    ∷ behind_tag text tag (slice_range text (place + 1) tag.name_end) names
Tells text names s at (Ok (Words place end)) =
    answers_at text s at ≡ words place (slice_range text place end) ∷ answers_at text
    (state_at end names) end
Tells text names s at (Ok (Stop place end)) = Leaves text names s at place end
Tells text names s at (Ok End) = answers_at text s at ≡ finish ∷ []

-- a token lies after its place, and where it begins and ends there are bytes of ASCII
abbrev pub TokenStands : List ℕ → ℕ → Result Token ℕ → Type 0
TokenStands text at (Ok (Start place tag)) = (at ≤ place) × StandsAt text place 60
    × TagStands text (place + 1) tag
TokenStands text at (Ok (Words place end)) = (place ≤ end) × StandsAt text end 60
    × EndsTagOrStays text at place
TokenStands text at (Ok (Stop place end)) = (at ≤ place) × (place ≤ end) × EndsTag text end
TokenStands text at _ = Unit {0}
