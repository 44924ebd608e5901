-- The words that the laws of a call speak of.
use Rattle.std.specs.Prelude.{ℕ, Bool, true, false, not, ◌&&◌, ◌≡◌, ◌⊎◌, List, [], ◌∷◌, ◌++◌, codes, Option, None, Some}
use Rattle.std.specs.List.{list_all}
use Rattle.std.specs.Str.{bytes_eq}
use Rattle.cli_options.specs.declared.names.CommandName.{CommandName}
use Rattle.cli_options.specs.declared.forms.CommandOption.{CommandOption}
use Rattle.cli_options.specs.Options.{has_value, letter_option, name_option}
use Rattle.cli_options.specs.Said.{is_option}

-- An option that has no value.
abbrev pub is_flag : Option CommandOption → Bool
is_flag None = false
is_flag (Some option) = not (has_value option)

-- A letter is one of a command's flags.
abbrev pub is_flag_letter : CommandName → ℕ → Bool
is_flag_letter command letter = is_flag (letter_option command letter)

-- Each letter is one of a command's flags, and there is at least one.
abbrev pub are_flag_letters : CommandName → List ℕ → Bool
are_flag_letters command [] = false
are_flag_letters command (letter ∷ letters) = is_flag_letter command letter
    && list_all (is_flag_letter command) letters

-- A word says flags of a command and nothing else: `--` and the name of a flag, or `-` and letters
-- of flags.
abbrev pub IsFlagWord : CommandName → List ℕ → Type 0
IsFlagWord command word =
    ((name : List ℕ) × (is_flag (name_option command name) ≡ true) × (word ≡ codes "--" ++ name))
    ⊎ ((letters : List ℕ) × (are_flag_letters command letters ≡ true)
    × (word ≡ codes "-" ++ letters))

-- None of the words is `--`.
abbrev pub lack_end : List (List ℕ) → Bool
lack_end words = list_all (λ word. not (bytes_eq word (codes "--"))) words

-- A word is the name of an option of a command: its long name, or its letter.
pub data IsNameOf (command : CommandName) (option : CommandOption) (word : List ℕ) : Type 0 where
  long : (name : List ℕ) → name_option command name ≡ Some option → word ≡ codes "--" ++ name
      → IsNameOf command option word
  short : (letter : ℕ) → letter_option command letter ≡ Some option
      → word ≡ codes "-" ++ letter ∷ [] → IsNameOf command option word

-- Words say an option of a command and nothing else: a flag; or an option with its value, in a word
-- of its own, after `=`, or after the letter.
pub data SayOption (command : CommandName) (option : CommandOption) (words : List (List ℕ))
    : Type 0 where
  flag : (word : List ℕ) → has_value option ≡ false → IsNameOf command option word
      → words ≡ word ∷ [] → SayOption command option words
  apart : (word value : List ℕ) → has_value option ≡ true → IsNameOf command option word
      → is_option value ≡ false → words ≡ word ∷ value ∷ [] → SayOption command option words
  after_sign : (name value : List ℕ) → has_value option ≡ true
      → name_option command name ≡ Some option
      → words ≡ (codes "--" ++ name ++ codes "=" ++ value) ∷ [] → SayOption command option words
  after_letter : (letter byte : ℕ) (bytes : List ℕ) → has_value option ≡ true
      → letter_option command letter ≡ Some option
      → words ≡ (codes "-" ++ letter ∷ byte ∷ bytes) ∷ [] → SayOption command option words
