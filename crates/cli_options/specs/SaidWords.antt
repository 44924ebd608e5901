-- What is seen of what words say in memory, and of a word more.
use Rattle.std.specs.Prelude.{◌≡◌, ℕ, if◌then◌else◌, List, [], ◌∷◌, Option, None, Some, Result, Ok, Err, map, option_map}
use Rattle.std.specs.Borrow.{Bor}
use Rattle.cli_options.specs.declared.forms.CommandOption.{CommandOption}
use Rattle.cli_options.specs.declared.reading.ReadWords.{ReadWords}
use Rattle.cli_options.specs.declared.said.GivenTexts.{GivenTexts}
use Rattle.cli_options.specs.declared.said.ReadingState.{ReadingState}
use Rattle.cli_options.specs.declared.said.RepeatedText.{RepeatedText}
use Rattle.cli_options.specs.declared.said.SaidWords.{SaidWords}
use Rattle.cli_options.specs.declared.said.WordsFail.{WordsFail}
use Rattle.cli_options.specs.declared.said.WordsFail.TheVariants.{Wrong, NoMemory}
use Rattle.cli_options.specs.Said.{Said, is_option_of}

-- The bytes of a text, where there is one.
abbrev pub text_seen : Option (Bor (List ℕ)) → Option (List ℕ)
text_seen = option_map (λ text. text.now)

-- the texts that are of this option, in their order
abbrev pub texts_among : List RepeatedText → CommandOption → List (List ℕ)
texts_among [] option = []
texts_among (r ∷ repeated) option =
    if is_option_of r.option option then r.text ∷ texts_among repeated option
    else texts_among repeated option

-- the same with the texts' bytes
abbrev pub said_seen : SaidWords → Said
said_seen said = record {
  given = map text_seen said.given;
  repeated = texts_among said.repeated.now;
  due = said.due;
  ended = said.ended;
  positions = said.positions.now;
}

-- What words say, while they are read.
abbrev pub reading_seen : GivenTexts → ReadingState → Said
reading_seen given state = record {
  given = map text_seen given.texts;
  repeated = texts_among state.repeated;
  due = state.due;
  ended = state.ended;
  positions = state.positions;
}

-- The same of words that were read.
abbrev pub words_seen : ReadWords → Said
words_seen words = reading_seen words.given words.state

-- A function gives what is defined, as it is seen, or fails where nothing is defined, or memory ran
-- out.
abbrev pub Gives : {X Y : Type 0} → (X → Y) → Result X WordsFail → Option Y → Type 0
Gives seen (Ok x) defined = defined ≡ Some (seen x)
Gives seen (Err Wrong) defined = defined ≡ None
Gives seen (Err NoMemory) defined = Unit {0}
