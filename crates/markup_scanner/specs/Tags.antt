-- What the tags of a text give.
use Rattle.std.specs.Prelude.{ℕ, ◌+◌, ◌≡◌, ◌≤◌, ◌<◌, ◌⊎◌, if◌then◌else◌, true, List, [], ◌∷◌, drop, slice_range, Result, Ok, Err}
use Rattle.markup_grammar.specs.Answers.{Answer, start, stop, form}
use Rattle.markup_grammar.specs.Machine.{State, Names, between, within, closing, level_of_names, name_begins, step, verdict}
use Rattle.markup_scanner.specs.Left.{answers_at, StandsAt, BeginsWithout}
use Rattle.markup_scanner.specs.declared.tag.StartTag.{StartTag}

-- a `>` or a `/` is there
abbrev pub EndsStartTag : List ℕ → ℕ → Type 0
EndsStartTag text at = StandsAt text at 62 ⊎ StandsAt text at 47

-- neither does
abbrev pub EndsNoTag : List ℕ → ℕ → Type 0
EndsNoTag text at = BeginsWithout 62 (drop at text) × BeginsWithout 47 (drop at text)

-- the state goes on as after the `<` of a start tag at this place, with these elements open
pub record IsOpened (text : List ℕ) (s : State) (place : ℕ) (names : Names) (at : ℕ) : Type 0 where
  pub ends : drop at text ≡ [] → verdict s at ≡ form at
  pub turns : (b : ℕ) → StandsAt text at b → step s at b ≡ name_begins b place names

-- what is left after a start tag
abbrev pub behind_tag : List ℕ → StartTag → List ℕ → Names → List Answer
behind_tag text tag name names =
    if tag.is_empty
    then stop tag.attrs_end ∷ answers_at text (between (level_of_names names)) (tag.attrs_end + 2)
    else answers_at text (between (within name names)) (tag.attrs_end + 1)

-- the rest of a start tag is there, and gives its piece; or it is refused at a place
abbrev pub GivesTag : List ℕ → State → ℕ → Names → ℕ → Result StartTag ℕ → Type 0
GivesTag text s place names at (Ok tag) =
    answers_at text s at
    ≡ start place (slice_range text at tag.name_end) (slice_range text tag.name_end tag.attrs_end)
    ∷ behind_tag text tag (slice_range text at tag.name_end) names
GivesTag text s place names at (Err p) = answers_at text s at ≡ form p ∷ []

-- a byte of ASCII is there
abbrev pub AsciiAt : List ℕ → ℕ → Type 0
AsciiAt text at = (b : ℕ) × StandsAt text at b × (b < 128)

-- the parts of a start tag lie one after the other, and it ends in `>` or `/>`
pub record TagStands (text : List ℕ) (at : ℕ) (tag : StartTag) : Type 0 where
  pub name : at < tag.name_end
  pub attrs : tag.name_end ≤ tag.attrs_end
  pub after_name : AsciiAt text tag.name_end
  pub after_attrs : StandsAt text tag.attrs_end (if tag.is_empty then 47 else 62)
  pub after_slash : tag.is_empty ≡ true → StandsAt text (tag.attrs_end + 1) 62

-- the rest of the end tag of this name is there, and gives its piece; or it is refused at a place
abbrev pub ClosesTag : List ℕ → ℕ → List ℕ → Names → ℕ → Result ℕ ℕ → Type 0
ClosesTag text place name names at (Ok end) =
    answers_at text (closing place name names) at ≡ stop place ∷ answers_at text
    (between (level_of_names names)) end
ClosesTag text place name names at (Err p) = answers_at text (closing place name names) at ≡ form p
    ∷ []
