-- Why words are no command, with a database or without one, and open no session: the first word from
-- the left that is wrong, and else the first of what all of them lack or what does not go together.
use Rattle.std.specs.Prelude.{ℕ, not, ◌&&◌, ◌==◌, nat_lt, if◌then◌else◌, is_some, length, drop, List, [], ◌∷◌, codes, slice_get, Option, None, Some, option_map, unwrap_or}
use Rattle.std.specs.Option.{option_map_or, option_or}
use Rattle.cli_options.specs.declared.names.CommandName.{CommandName}
use Rattle.cli_options.specs.declared.names.CommandName.TheVariants as name
use Rattle.cli_options.specs.declared.forms.CommandOption.{CommandOption}
use Rattle.cli_options.specs.declared.forms.CommandOption.TheVariants as option
use Rattle.cli_options.specs.Laws.{is_flag_letter}
use Rattle.cli_options.specs.Options.{command_named, has_value, letter_option, name_option}
use Rattle.cli_options.specs.Prefixes.{after_sign, before_sign, strip_prefix}
use Rattle.cli_options.specs.Said.{Said, is_given, is_option, nothing_said, text_of, with_word}
use Rattle.cli_profiles.specs.Profiles.{alphabet_of, length_named}
use Rattle.cli_standalone.specs.Standalone.{test_count}
use Rattle.cli_parse.specs.Words.{format_named, has_change, import_format_named}
use Rattle.cli_causes.specs.Attachments.{export_attachment_cause, import_attachment_cause}
use Rattle.cli_causes.specs.Fields.{further_cause}
use Rattle.cli_causes.specs.Files.{create_cause, edit_file_cause, new_key_cause}
use Rattle.cli_causes.specs.First.{first_of}
use Rattle.cli_causes.specs.Versions.{number_cause, restore_cause}
use Rattle.cli_causes.specs.declared.cause.Cause.{Cause}
use Rattle.cli_causes.specs.declared.cause.Cause.TheVariants.{NoCommand, OptionFirst, UnknownCommand, UnknownOption, UnknownLetter, UnknownWord, TakesNoValue, LetterTakesNoValue, OptionTwice, FlagsTwice, JoinedValue, NoValue, OptionAsValue, FewPositions, ExtraPosition, ManySources, NotWithPlain, NotWithSame, NotTogether, NoKeyFile, NoKeyFileFrom, UnknownImportFormat, UnknownExportFormat, NothingToChange, NeedsGenerate, UnknownLength, UnknownCount, NoCharacters}

-- ---- a word that is wrong

-- The flag before a letter that is `=`.
abbrev pub flag_before : (previous : Option ℕ) → ℕ → Option ℕ
flag_before previous letter = if letter == 61 then previous else None

-- A letter that no option of a command has.
abbrev pub unknown_letter : CommandName → List ℕ → ℕ → Cause
unknown_letter command word letter =
    if nat_lt letter 128 then UnknownLetter command letter else UnknownWord command word

-- A letter that is no flag of a command, after the one before it: that of an option with a value,
-- `=` after a flag, or one of no option.
abbrev pub letter_cause : CommandName → List ℕ → (previous : Option ℕ) → ℕ → Cause
letter_cause command word previous letter = if is_some (letter_option command letter)
    then JoinedValue letter
    else option_map_or LetterTakesNoValue (flag_before previous letter)
    (unknown_letter command word letter)

-- The first letter of a word that is no flag of a command.
abbrev pub wrong_letter : CommandName → List ℕ → (previous : Option ℕ) → List ℕ → Option Cause
wrong_letter command word previous [] = None
wrong_letter command word previous (letter ∷ letters) = if is_flag_letter command letter
    then wrong_letter command word (Some letter) letters
    else Some (letter_cause command word previous letter)

-- Letters of which each is a flag of the command, and one was given before.
abbrev pub twice_cause : CommandName → List ℕ → List ℕ → Cause
twice_cause command word (letter ∷ []) =
    option_map_or OptionTwice (letter_option command letter) (FlagsTwice word)
twice_cause command word letters = FlagsTwice word

-- Letters joined in a word: the first that is no flag, or else one that was given before.
unfoldable pub letters_cause : CommandName → List ℕ → List ℕ → Cause
letters_cause command word letters =
    unwrap_or (wrong_letter command word None letters) (twice_cause command word letters)

-- An option that has a value, where there is one.
abbrev pub valued : Option CommandOption → Option CommandOption
valued None = None
valued (Some option) = if has_value option then Some option else None

-- An option that was given before, or else joined letters.
abbrev pub option_or_letters : CommandName → List ℕ → List ℕ → Option CommandOption → Cause
option_or_letters command word letters (Some option) = OptionTwice option
option_or_letters command word letters None = letters_cause command word letters

-- A word of one `-`: the letter of an option with its value, given before, or joined letters.
abbrev pub short_cause : CommandName → List ℕ → List ℕ → Cause
short_cause command word [] = FlagsTwice word
short_cause command word (letter ∷ rest) =
    option_or_letters command word (letter ∷ rest) (valued (letter_option command letter))

-- An option of a long name: a flag with a value after its name, or given before.
abbrev pub taken_cause : List ℕ → CommandOption → Cause
taken_cause name option = if not (has_value option) && is_some (after_sign name)
    then TakesNoValue option else OptionTwice option

-- A word of two `-`, and what comes after them: an option that the command does not take, or one
-- that it takes.
abbrev pub long_cause : CommandName → List ℕ → Cause
long_cause command name = option_map_or (taken_cause name)
    (name_option command (before_sign name)) (UnknownOption command (before_sign name))

-- A word that is an option.
abbrev pub option_cause : CommandName → List ℕ → Cause
option_cause command word = option_map_or (long_cause command) (strip_prefix (codes "--") word)
    (short_cause command word (drop 1 word))

-- A word that is wrong, after another one: where a value is due it is an option.
abbrev pub word_cause : CommandName → List ℕ → List ℕ → Option CommandOption → Cause
word_cause command previous word (Some option) = OptionAsValue previous
word_cause command previous word None = option_cause command word

-- ---- what all words say

-- A value is still due after the last word.
abbrev pub due_cause : List ℕ → Option CommandOption → Option Cause
due_cause previous due = option_map (λ option. NoValue previous) due

-- The fewest positions that a command has.
abbrev pub fewest : CommandName → ℕ
fewest name.Ls = 1
fewest name.Move = 3
fewest name.ExportAttachment = 3
fewest name.ImportAttachment = 4
fewest name.RemoveAttachment = 3
fewest name.Create = 1
fewest name.Export = 1
fewest name.EditFile = 1
fewest name.Info = 1
fewest name.Generate = 0
fewest name.SelfTest = 1
fewest name.Open = 1
fewest command = 2

-- The most positions that a command has.
abbrev pub most : CommandName → ℕ
most name.Merge = 17
most name.Ls = 2
most name.ExportAttachment = 4
most command = fewest command

-- A position more than a command takes.
abbrev pub extra_cause : CommandName → List ℕ → Cause
extra_cause name.Merge word = ManySources
extra_cause command word = ExtraPosition command word

-- Fewer positions than these, or one more than those.
abbrev pub count_cause : CommandName → (fewest most : ℕ) → List (List ℕ) → Option Cause
count_cause command fewest most positions = if nat_lt (length positions) fewest
    then Some (FewPositions command)
    else option_map (extra_cause command) (slice_get positions most)

-- Fewer positions than a command needs, or one too many.
abbrev pub positions_cause : CommandName → List (List ℕ) → Option Cause
positions_cause command positions =
    count_cause command (fewest command) (most command) positions

-- What goes with no plain document, since that has no key, and is given beside it.
abbrev pub plain_cause : Said → Option Cause
plain_cause said = first_of (
    (is_given option.NoPassword said, NotWithPlain option.NoPassword)
    ∷ (is_given option.KeyFile said, NotWithPlain option.KeyFile)
    ∷ (is_given option.NoPasswordFrom said, NotWithPlain option.NoPasswordFrom)
    ∷ (is_given option.KeyFileFrom said, NotWithPlain option.KeyFileFrom)
    ∷ (is_given option.SameCredentials said, NotWithPlain option.SameCredentials) ∷ [])

-- What opens a database, or the sources of a merge, does not fit it.
abbrev pub sealed_cause : Said → Option Cause
sealed_cause said = first_of (
    (is_given option.NoPassword said && not (is_given option.KeyFile said), NoKeyFile)
    ∷ (
      is_given option.SameCredentials said && is_given option.NoPasswordFrom said,
      NotWithSame option.NoPasswordFrom,
    )
    ∷ (
      is_given option.SameCredentials said && is_given option.KeyFileFrom said,
      NotWithSame option.KeyFileFrom,
    )
    ∷ (
      is_given option.NoPasswordFrom said && not (is_given option.KeyFileFrom said),
      NoKeyFileFrom,
    ) ∷ [])

-- What opens databases does not fit them.
abbrev pub credentials_cause : Said → Option Cause
credentials_cause said =
    if is_given option.Plain said then plain_cause said else sealed_cause said

-- A format that is unknown, if one is named.
abbrev pub import_format_cause : Option (List ℕ) → Option Cause
import_format_cause None = None
import_format_cause (Some name) =
    if is_some (import_format_named name) then None else Some (UnknownImportFormat name)

-- The same of an export.
abbrev pub export_format_cause : Option (List ℕ) → Option Cause
export_format_cause None = None
export_format_cause (Some name) =
    if is_some (format_named name) then None else Some (UnknownExportFormat name)

-- A one-time code is shown beside all that there is.
abbrev pub code_cause : Said → Option Cause
code_cause said = first_of ((
  is_given option.Totp said && is_given option.All said,
  NotTogether option.Totp option.All,
)
    ∷ (
      is_given option.Totp said && is_given option.Attachments said,
      NotTogether option.Totp option.Attachments,
    ) ∷ [])

-- The same, or the number of the version that is shown is none.
abbrev pub show_cause : Said → Option Cause
show_cause said = option_or (code_cause said) (number_cause option.At (text_of option.At said))

-- An edit is given no value.
abbrev pub change_cause : Said → Option Cause
change_cause said = if has_change said then None else Some NothingToChange

-- A length that no password has, if one is named.
abbrev pub length_cause : Option (List ℕ) → Option Cause
length_cause None = None
length_cause (Some text) = if is_some (length_named text) then None else Some (UnknownLength text)

-- A number of entries that no test has, where one is named.
abbrev pub test_cause : List (List ℕ) → Option Cause
test_cause (text ∷ []) = if is_some (test_count text) then None else Some (UnknownCount text)
test_cause positions = None

-- No character is left.
abbrev pub alphabet_cause : List ℕ → Option Cause
alphabet_cause [] = Some NoCharacters
alphabet_cause (c ∷ cs) = None

-- What is said of a generated password is none of a password.
abbrev pub profile_cause : Said → Option Cause
profile_cause said =
    option_or (length_cause (text_of option.Length said)) (alphabet_cause (alphabet_of said))

-- The same of an entry's password, which is no line of the input.
abbrev pub entry_profile_cause : Said → Option Cause
entry_profile_cause said = if is_given option.EntryPassword said
    then Some (NotTogether option.Generate option.EntryPassword)
    else profile_cause said

-- An option that says how a password is generated.
abbrev pub profile_option_cause : Said → Option Cause
profile_option_cause said = first_of (
    (is_given option.Length said, NeedsGenerate option.Length)
    ∷ (is_given option.Exclude said, NeedsGenerate option.Exclude)
    ∷ (is_given option.Lower said, NeedsGenerate option.Lower)
    ∷ (is_given option.Upper said, NeedsGenerate option.Upper)
    ∷ (is_given option.Numeric said, NeedsGenerate option.Numeric)
    ∷ (is_given option.Special said, NeedsGenerate option.Special) ∷ [])

-- What is said of an entry's password does not fit together: how it is generated, or that it is.
abbrev pub generated_cause : Said → Option Cause
generated_cause said = if is_given option.Generate said
    then entry_profile_cause said else profile_option_cause said

-- What is said of the values of an entry that is edited does not fit together, or none is given.
abbrev pub values_cause : Said → Option Cause
values_cause said =
    option_or (generated_cause said) (option_or (further_cause said) (change_cause said))

-- What is said of an edit does not fit: of the version that is restored where a text says which, or
-- else of the values.
abbrev pub edit_cause : Said → Option (List ℕ) → Option Cause
edit_cause said (Some text) = restore_cause said text
edit_cause said None = values_cause said

-- What a command with these positions asks for beside what all of them do.
abbrev pub own_cause : CommandName → Said → (positions : List (List ℕ)) → Option Cause
own_cause name.Show said positions = show_cause said
own_cause name.Add said positions = generated_cause said
own_cause name.Edit said positions = edit_cause said (text_of option.Restore said)
own_cause name.ExportAttachment said positions = export_attachment_cause said positions
own_cause name.ImportAttachment said positions = import_attachment_cause positions
own_cause name.Import said positions =
    option_or (new_key_cause name.Import said)
    (import_format_cause (text_of option.ImportFormat said))
own_cause name.Create said positions = create_cause said
own_cause name.Export said positions = export_format_cause (text_of option.Format said)
own_cause name.EditFile said positions = edit_file_cause said
own_cause name.Generate said positions = profile_cause said
own_cause name.SelfTest said positions = test_cause positions
own_cause command said positions = None

-- What is wrong in all words together, of which this is the last.
abbrev pub said_cause : CommandName → List ℕ → Said → Option Cause
said_cause command last said = option_or (due_cause last said.due)
    (option_or (positions_cause command said.positions)
    (option_or (credentials_cause said) (own_cause command said said.positions)))

-- ---- words

-- What is wrong in words after this one, where those before them say this.
abbrev pub cause_from : CommandName → List ℕ → List (List ℕ) → Said → Option Cause
cause_from command previous [] said = said_cause command previous said
cause_from command previous (word ∷ words) said = option_map_or (cause_from command word words)
    (with_word command said word) (Some (word_cause command previous word said.due))

-- A word that is no command's name.
abbrev pub name_cause : List ℕ → Cause
name_cause word = if is_option word then OptionFirst word else UnknownCommand word

-- Why words are no command, with a database or without one, and open no session, if they do neither.
abbrev pub cause_of : List (List ℕ) → Option Cause
cause_of [] = Some NoCommand
cause_of (word ∷ words) = option_map_or
    (λ command. cause_from command word words nothing_said) (command_named word)
    (Some (name_cause word))
