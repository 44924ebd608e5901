-- The text that a stream of bytes chooses, and the character for which too many bytes are refused.
use Rattle.std.specs.Prelude.{Bool, true, false, ◌≡◌, ◌<◌, ◌≤◌, ℕ, zero, suc, ◌*◌, ◌/◌, ◌%◌, nat_lt, List, [], ◌∷◌, ◌++◌, length, slice_index, Option, Some, Result, Ok, Err, if◌then◌else◌}
use Rattle.secret_core.specs.Secret.{SecretBuffer}
use Rattle.gen_core.specs.declared.choosing.GenFail.{GenFail}
use Rattle.gen_core.specs.declared.choosing.GenFail.TheVariants.{Spent, Failed, NoMemory}

-- Of the 256 bytes those below this are accepted, for an alphabet of n characters: as many as can
-- be shared out evenly.
abbrev pub bound : ℕ → ℕ
bound n = n * (256 / n)

-- the character that an accepted byte stands for
abbrev pub character : List ℕ → ℕ → ℕ
character alphabet b = slice_index alphabet (b % length alphabet)

-- Where the search for the next accepted byte ends, and what is left of the stream.
pub data Next : Type 0 where
  accepted : ℕ → List ℕ → Next
  refused : List ℕ → Next
  cut_short : Next

-- the first of so many bytes that is below the limit
unfoldable pub next : ℕ → ℕ → List ℕ → Next
next limit zero stream = refused stream
next limit (suc tries) [] = cut_short
next limit (suc tries) (b ∷ stream) =
    if nat_lt b limit then accepted b stream else next limit tries stream

-- What a stream chooses, and what is left of it: a text, or the number of the character for which
-- too many bytes are refused; or the stream ends before.
pub data Choice : Type 0 where
  chosen : List ℕ → List ℕ → Choice
  spent : ℕ → List ℕ → Choice
  ended : Choice

-- so many bytes are refused for one character before the choice is given up
abbrev pub tries : ℕ
tries = 128

-- so many more characters after those of a text
unfoldable pub choose : List ℕ → ℕ → List ℕ → List ℕ → Choice
choose alphabet zero text stream = chosen text stream
choose alphabet (suc wanted) text stream =
    elim (next (bound (length alphabet)) tries stream) as (λ _. Choice) [
      | accepted b rest ↦ choose alphabet wanted (text ++ character alphabet b ∷ []) rest
      | refused rest ↦ spent (length text) rest
      | cut_short ↦ ended
    ]

-- A relation of the stream before a call and the stream after it, where both are reported.
abbrev pub Between : Option (List ℕ) → Option (List ℕ) → (List ℕ → List ℕ → Type 0) → Type 0
Between before now P =
    (stream rest : List ℕ) → before ≡ Some stream → now ≡ Some rest → P stream rest

-- What the search for an accepted byte answers, of a stream and what is left of it.
abbrev pub IsNext : ℕ → Bool → List ℕ → List ℕ → List ℕ → Type 0
IsNext limit true byte stream rest = next limit tries stream ≡ accepted (slice_index byte 0) rest
IsNext limit false byte stream rest = next limit tries stream ≡ refused rest

-- What the choice of a text of this length answers, of a stream and what is left of it. Dice that
-- fail and running out of memory say nothing of it.
abbrev pub IsChosen : List ℕ → ℕ → Result SecretBuffer GenFail → List ℕ → List ℕ → Type 0
IsChosen alphabet length (Ok text) stream rest =
    choose alphabet length [] stream ≡ chosen text.bytes rest
IsChosen alphabet length (Err (Spent k)) stream rest =
    choose alphabet length [] stream ≡ spent k rest
IsChosen alphabet length (Err Failed) stream rest = Unit {0}
IsChosen alphabet length (Err NoMemory) stream rest = Unit {0}

-- Some stream chooses this text, whatever the dice report.
pub record ChosenBySome (alphabet : List ℕ) (length : ℕ) (text : List ℕ) : Type 0 where
  pub stream : List ℕ
  pub rest : List ℕ
  pub chooses : choose alphabet length [] stream ≡ chosen text rest

-- A text that was made where it is, as the answer of its maker.
abbrev pub ok_then : {E : Type 0} → Result (Unit {0}) E → SecretBuffer → Result SecretBuffer E
ok_then (Ok done) text = Ok text
ok_then (Err fail) text = Err fail

-- An alphabet has 1 to 94 bytes, and none of them twice.
pub record IsAlphabet (alphabet : List ℕ) : Type 0 where
  pub some : 0 < length alphabet
  pub few : length alphabet ≤ 94
  pub distinct : (i j : ℕ) → i < length alphabet → j < length alphabet
      → slice_index alphabet i ≡ slice_index alphabet j → i ≡ j
