-- What the scanners answer: the place after what is at a place, or the first place at which it is
-- not that.
use Rattle.std.specs.Prelude.{ℕ, ◌+◌, ◌≡◌, ◌≤◌, Bool, true, List, [], ◌∷◌, length, drop, slice_range, Result, Ok, Err, if◌then◌else◌, ◌==◌}
use Rattle.std.specs.List.{prefix_len}
use Rattle.markup_grammar.specs.Answers.{form}
use Rattle.markup_grammar.specs.Bytes.{begins_name, is_name_byte}
use Rattle.markup_grammar.specs.Machine.{State, in_words, in_reference, in_tag, valuing, referring, Names, Ref, on, off, step, verdict}
use Rattle.markup_scanner.specs.Left.{answers_at, StandsAt, BeginsWithout, FailsFirst}

-- reading goes from one state to another, which may report by the place of its end, and gives
-- nothing on the way; or it is refused at a place
abbrev pub Leads : List ℕ → State → ℕ → (ℕ → State) → Result ℕ ℕ → Type 0
Leads text from at to (Ok end) = answers_at text from at ≡ answers_at text (to end) end
Leads text from at to (Err place) = answers_at text from at ≡ form place ∷ []

-- an end lies after the beginning and in the text
abbrev pub EndsWithin : List ℕ → ℕ → Result ℕ ℕ → Type 0
EndsWithin text at (Ok end) = (at ≤ end) × (end ≤ length text)
EndsWithin text at (Err place) = Unit {0}

-- this one byte is there; or it does not
abbrev pub IsPast : List ℕ → ℕ → ℕ → Result ℕ ℕ → Type 0
IsPast text at byte (Ok end) = (end ≡ at + 1) × StandsAt text at byte
IsPast text at byte (Err place) = (place ≡ at) × BeginsWithout byte (drop at text)

-- the end of the longest run of bytes that pass
abbrev pub run_end : (ℕ → Bool) → List ℕ → ℕ → ℕ
run_end test text at = at + prefix_len test (drop at text)

-- a name is there, as long as it goes; or none begins there
abbrev pub NameEnds : List ℕ → ℕ → Result ℕ ℕ → Type 0
NameEnds text at (Ok end) =
    (b : ℕ) × StandsAt text at b × (begins_name b ≡ true)
    × (end ≡ run_end is_name_byte text (at + 1))
NameEnds text at (Err place) = (place ≡ at) × FailsFirst begins_name (drop at text)

-- the states wait for certain bytes, one after the other
pub record Await (text : List ℕ) (s : List ℕ → ℕ → State) (least : ℕ) : Type 0 where
  pub turns : (c : ℕ) (more : List ℕ) (at b : ℕ) → least ≤ at → StandsAt text at b
      → step (s (c ∷ more) at) at b ≡ (if b == c then on [] (s more (at + 1)) else off)
  pub ends : (c : ℕ) (more : List ℕ) (at : ℕ) → verdict (s (c ∷ more) at) at ≡ form at

-- where references are: in a run of text, by its place and the names of the open elements, or in
-- a value, by its quote and its tag
pub data Host : Type 0 where
  of_run : ℕ → List ℕ → Names → Host
  of_value : ℕ → ℕ → List ℕ → ℕ → Names → Host

-- where what a host has kept begins
abbrev pub host_begin : Host → ℕ
host_begin (of_run place name names) = place
host_begin (of_value quote place name from names) = from

-- the state outside references at a place
abbrev pub host_state : List ℕ → Host → ℕ → State
host_state text (of_run place name names) at = in_words place (slice_range text place at) name names
host_state text (of_value quote place name from names) at = in_tag (valuing quote) place name
    (slice_range text from at) names

-- the state within one
abbrev pub host_reference : List ℕ → Host → Ref → ℕ → State
host_reference text (of_run place name names) r at = in_reference r place
    (slice_range text place at) name names
host_reference text (of_value quote place name from names) r at = in_tag (referring quote r) place
    name (slice_range text from at) names
