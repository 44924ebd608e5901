-- What the words of a call say.
use Rattle.std.specs.Prelude.{ℕ, Bool, true, false, not, ◌&&◌, ◌==◌, if◌then◌else◌, is_some, List, [], ◌∷◌, ◌++◌, codes, replicate, Option, None, Some, option_and_then, slice_index_or, slice_set}
use Rattle.cli_options.specs.Prefixes.{after_sign, before_sign, strip_prefix}
use Rattle.cli_options.specs.declared.names.CommandName.{CommandName}
use Rattle.cli_options.specs.declared.forms.CommandOption.{CommandOption}
use Rattle.cli_options.specs.Options.{has_value, is_repeatable, letter_option, name_option, place_of}

-- ---- what words say

-- A word of two or more bytes that begins with `-` is an option.
abbrev pub is_option : List ℕ → Bool
is_option [] = false
is_option (b ∷ []) = false
is_option (b ∷ c ∷ bs) = b == 45

-- What the words after a command's name say: the last text of each option that was given, a flag's
-- being empty; all texts of each option that may occur more than once, in their order; the option
-- whose value is due in the next word; whether `--` was there, after which no word is an option; and
-- the positions.
pub record Said : Type 0 where
  pub given : List (Option (List ℕ))
  pub repeated : CommandOption → List (List ℕ)
  pub due : Option CommandOption
  pub ended : Bool
  pub positions : List (List ℕ)

-- What no words say.
abbrev pub nothing_said : Said
nothing_said = record {
  given = replicate 53 None;
  repeated = λ option. [];
  due = None;
  ended = false;
  positions = [];
}

-- The text of an option among these, by its place.
abbrev pub text_in : CommandOption → List (Option (List ℕ)) → Option (List ℕ)
text_in option texts = slice_index_or texts (place_of option) None

-- The text of an option, the last one where it was given more than once.
abbrev pub text_of : CommandOption → Said → Option (List ℕ)
text_of option said = text_in option said.given

-- All texts of an option that may occur more than once, in their order.
abbrev pub texts_of : CommandOption → Said → List (List ℕ)
texts_of option said = said.repeated option

-- An option was given.
abbrev pub is_given : CommandOption → Said → Bool
is_given option said = is_some (text_of option said)

-- An option is among these and must not be given once more.
abbrev pub is_used : CommandOption → List (Option (List ℕ)) → Bool
is_used option texts = not (is_repeatable option) && is_some (text_in option texts)

-- The value of an option is still due.
abbrev pub is_due : Said → Bool
is_due said = is_some said.due

-- This, unless it was said before.
abbrev pub unless_given : Bool → Said → Option Said
unless_given true said = None
unless_given false said = Some said

-- ---- one word more

-- The texts of options with one more, or another.
abbrev pub with_text : List (Option (List ℕ)) → CommandOption → List ℕ → List (Option (List ℕ))
with_text given option text = slice_set given (place_of option) (Some text)

-- Whether two options are one.
abbrev pub is_option_of : (one other : CommandOption) → Bool
is_option_of one other = place_of one == place_of other

-- The texts of options that may occur more than once, with one more of an option after its others.
abbrev pub with_repeated : (CommandOption → List (List ℕ)) → CommandOption → List ℕ
    → CommandOption → List (List ℕ)
with_repeated repeated option text other =
    if is_option_of option other then repeated other ++ text ∷ [] else repeated other

-- The same where this one may occur more than once.
abbrev pub repeated_with : Bool → (CommandOption → List (List ℕ)) → CommandOption → List ℕ
    → CommandOption → List (List ℕ)
repeated_with true repeated option text = with_repeated repeated option text
repeated_with false repeated option text = repeated

-- An option with its text: in its place, and after its other texts where it may occur more than once.
abbrev pub with_option_text : Said → CommandOption → List ℕ → Said
with_option_text said option text = record said {
  given = with_text said.given option text;
  repeated = repeated_with (is_repeatable option) said.repeated option text;
}

-- An option with its text, unless it must not be given once more.
abbrev pub with_given : Said → CommandOption → List ℕ → Option Said
with_given said option text =
    unless_given (is_used option said.given) (with_option_text said option text)

-- An option whose value is due in the next word.
abbrev pub with_due : Said → CommandOption → Option Said
with_due said option = unless_given (is_used option said.given) (record said { due = Some option })

-- A flag; an option that has a value is none.
abbrev pub with_flag : Said → Option CommandOption → Option Said
with_flag said None = None
with_flag said (Some option) = if has_value option then None else with_given said option []

-- Flags joined in one word.
abbrev pub with_letters : CommandName → List ℕ → Said → Option Said
with_letters command [] said = Some said
with_letters command (letter ∷ letters) said = option_and_then (with_letters command letters)
    (with_flag said (letter_option command letter))

-- A value after the letter of its option, from which `=` may part it.
abbrev pub without_sign : List ℕ → List ℕ
without_sign [] = []
without_sign (b ∷ bs) = if b == 61 then bs else b ∷ bs

-- An option with its value after it in the same word, or else in the next one.
abbrev pub with_joined : Said → CommandOption → List ℕ → Option Said
with_joined said option [] = with_due said option
with_joined said option (b ∷ bs) = with_given said option (without_sign (b ∷ bs))

-- An option of one `-`: of a letter with its value after it, or of joined letters.
abbrev pub by_letter : CommandName → Said → ℕ → List ℕ → Option CommandOption → Option Said
by_letter command said letter rest None = with_letters command (letter ∷ rest) said
by_letter command said letter rest (Some option) = if has_value option
    then with_joined said option rest else with_letters command (letter ∷ rest) said

-- An option of one `-` and what comes after it.
abbrev pub with_short : CommandName → Said → List ℕ → Option Said
with_short command said [] = Some said
with_short command said (letter ∷ rest) =
    by_letter command said letter rest (letter_option command letter)

-- An option by its long name: with its value after `=`, or in the next word; or a flag.
abbrev pub with_long : Said → Option CommandOption → Option (List ℕ) → Option Said
with_long said None value = None
with_long said (Some option) (Some value) =
    if has_value option then with_given said option value else None
with_long said (Some option) None =
    if has_value option then with_due said option else with_given said option []

-- The word `--`, or an option of two `-` and what comes after them.
abbrev pub with_name : CommandName → Said → List ℕ → Option Said
with_name command said [] = Some (record said { ended = true })
with_name command said (b ∷ bs) =
    with_long said (name_option command (before_sign (b ∷ bs))) (after_sign (b ∷ bs))

-- An option more: of two `-`, or of one.
abbrev pub with_option : CommandName → Said → Option (List ℕ) → Option (List ℕ) → Option Said
with_option command said (Some name) letters = with_name command said name
with_option command said None (Some letters) = with_short command said letters
with_option command said None None = None

-- A position more.
abbrev pub with_position : Said → List ℕ → Said
with_position said word = record said { positions = said.positions ++ word ∷ [] }

-- A word where this option's value is due: the value, which is no option; or else an option or a
-- position.
abbrev pub with_next : CommandName → Said → List ℕ → Option CommandOption → Option Said
with_next command said word (Some option) =
    if is_option word then None else with_given (record said { due = None }) option word
with_next command said word None =
    if is_option word && not said.ended
    then with_option command said (strip_prefix (codes "--") word) (strip_prefix (codes "-") word)
    else Some (with_position said word)

-- A word more.
abbrev pub with_word : CommandName → Said → List ℕ → Option Said
with_word command said word = with_next command said word said.due

-- All words, one after another.
abbrev pub with_words : CommandName → List (List ℕ) → Said → Option Said
with_words command [] said = Some said
with_words command (word ∷ words) said =
    option_and_then (with_words command words) (with_word command said word)
