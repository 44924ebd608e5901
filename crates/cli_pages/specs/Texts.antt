-- The line that says why words are no command.
use Rattle.std.specs.Prelude.{ℕ, Bool, false, not, ◌&&◌, ◌||◌, ◌==◌, ◌*◌, nat_eq, nat_lt, if◌then◌else◌, is_some, length, map, List, [], ◌∷◌, ◌++◌, codes, Option, None, Some}
use Rattle.std.specs.List.{find}
use Rattle.std.specs.Str.{bytes_eq, chars}
use Rattle.strsim.specs.Edits.{levenshtein_row}
use Rattle.cli_options.specs.declared.names.CommandName.{CommandName}
use Rattle.cli_options.specs.declared.names.CommandName.TheVariants as name
use Rattle.cli_options.specs.declared.forms.CommandOption.{CommandOption}
use Rattle.cli_options.specs.declared.forms.CommandOption.TheVariants.{Recursive, Flat, Quiet, Plain, NoPassword, KeyFile, Title, User, Url, Notes, EntryPassword, SameCredentials, DryRun, KeyFileFrom, NoPasswordFrom, Clear, All, Attachments, Format, Attribute, SetPassword, SetKeyFile, Totp, Generate, Length, Lower, Upper, Numeric, Special, Exclude, Otp, Cipher, Kdf, Rounds, Memory, Lanes, UnsetPassword, UnsetKeyFile, FileVersion, DatabaseName, At, Restore, Details, Ids, Set, Protect, Unset, Tag, Untag, Expires, Stdout, Force}
use Rattle.cli_options.specs.Options.{form_of, name_option}
use Rattle.cli_causes.specs.declared.cause.Cause.{Cause}
use Rattle.cli_causes.specs.declared.cause.Cause.TheVariants.{NoCommand, OptionFirst, UnknownCommand, UnknownOption, UnknownLetter, UnknownWord, TakesNoValue, LetterTakesNoValue, OptionTwice, FlagsTwice, JoinedValue, NoValue, OptionAsValue, FewPositions, ExtraPosition, ManySources, NotWithPlain, NotWithSame, NotTogether, NoKeyFile, NoKeyFileFrom, NoNewKey, UnknownImportFormat, UnknownExportFormat, NeedsGenerate, UnknownNumber, EmptyFieldName, StandardField, UnknownTag, NeedsSet, UnknownTime, FileBesideStdout, NoFileOrStdout, EmptyAttachmentName, UnknownLength, UnknownCount, NoCharacters, UnknownCipher, UnknownKdf, UnknownVersion, UnknownCost, NeedsKdf, NeedsArgon, NoKeyLeft, NoFileChange, KeyFileChangesNothing}

-- ---- commands and options

-- The name of a command.
abbrev pub command_text : CommandName → List ℕ
command_text name.Ls = codes "ls"
command_text name.Show = codes "show"
command_text name.History = codes "history"
command_text name.Search = codes "search"
command_text name.Add = codes "add"
command_text name.Edit = codes "edit"
command_text name.Move = codes "mv"
command_text name.Remove = codes "rm"
command_text name.MakeGroup = codes "mkdir"
command_text name.RemoveGroup = codes "rmdir"
command_text name.Merge = codes "merge"
command_text name.Import = codes "import"
command_text name.Create = codes "db-create"
command_text name.Export = codes "export"
command_text name.EditFile = codes "db-edit"
command_text name.Info = codes "db-info"
command_text name.Generate = codes "generate"
command_text name.SelfTest = codes "selftest"
command_text name.Open = codes "open"
command_text name.ExportAttachment = codes "attachment-export"
command_text name.ImportAttachment = codes "attachment-import"
command_text name.RemoveAttachment = codes "attachment-rm"

-- The positions of a command by their names.
abbrev pub positions_text : CommandName → List ℕ
positions_text name.Ls = codes "DATABASE [GROUP]"
positions_text name.Show = codes "DATABASE ENTRY"
positions_text name.History = codes "DATABASE ENTRY"
positions_text name.Search = codes "DATABASE TERM"
positions_text name.Add = codes "DATABASE ENTRY"
positions_text name.Edit = codes "DATABASE ENTRY"
positions_text name.Move = codes "DATABASE NODE GROUP"
positions_text name.Remove = codes "DATABASE ENTRY"
positions_text name.MakeGroup = codes "DATABASE GROUP"
positions_text name.RemoveGroup = codes "DATABASE GROUP"
positions_text name.Merge = codes "TARGET SOURCE..."
positions_text name.Import = codes "SOURCE DATABASE"
positions_text name.Create = codes "DATABASE"
positions_text name.Export = codes "DATABASE"
positions_text name.EditFile = codes "DATABASE"
positions_text name.Info = codes "DATABASE"
positions_text name.Generate = codes "only options"
positions_text name.SelfTest = codes "COUNT"
positions_text name.Open = codes "DATABASE"
positions_text name.ExportAttachment = codes "DATABASE ENTRY NAME [FILE]"
positions_text name.ImportAttachment = codes "DATABASE ENTRY NAME FILE"
positions_text name.RemoveAttachment = codes "DATABASE ENTRY NAME"

-- The commands.
abbrev pub commands : List CommandName
commands =
    name.Ls ∷ name.Show ∷ name.History ∷ name.Search ∷ name.Add ∷ name.Edit ∷ name.Move
    ∷ name.Remove ∷ name.MakeGroup ∷ name.RemoveGroup ∷ name.Merge ∷ name.Import ∷ name.Create
    ∷ name.Export ∷ name.EditFile ∷ name.Info ∷ name.Generate ∷ name.SelfTest ∷ name.Open
    ∷ name.ExportAttachment ∷ name.ImportAttachment ∷ name.RemoveAttachment ∷ []

-- The options, whichever command takes them.
abbrev pub options : List CommandOption
options =
    Recursive ∷ Flat ∷ Quiet ∷ Plain ∷ NoPassword ∷ KeyFile ∷ Title ∷ User ∷ Url ∷ Notes
    ∷ EntryPassword ∷ SameCredentials ∷ DryRun ∷ KeyFileFrom ∷ NoPasswordFrom ∷ Clear ∷ All
    ∷ Attachments ∷ Format ∷ Attribute ∷ SetPassword ∷ SetKeyFile ∷ Totp ∷ Generate ∷ Length
    ∷ Lower ∷ Upper ∷ Numeric ∷ Special ∷ Exclude ∷ Otp ∷ Cipher ∷ Kdf ∷ Rounds ∷ Memory ∷ Lanes
    ∷ UnsetPassword ∷ UnsetKeyFile ∷ FileVersion ∷ DatabaseName ∷ At ∷ Restore ∷ Details ∷ Ids
    ∷ Set ∷ Protect ∷ Unset ∷ Tag ∷ Untag ∷ Expires ∷ Stdout ∷ Force ∷ []

-- The long name of an option.
abbrev pub option_text : CommandOption → List ℕ
option_text option = (form_of option).name

-- ---- the nearest name

-- How many characters must be put in, taken out or changed to make one text of another.
abbrev pub distance : List ℕ → List ℕ → ℕ
distance word name = levenshtein_row nat_eq (chars word) (chars name) (length (chars name))

-- A name is near at this distance: two at most, and no more than half of the name.
abbrev pub is_short : ℕ → List ℕ → Bool
is_short far name = not (nat_lt 2 far) && not (nat_lt (length name) (far * 2))

-- Two texts begin with the same byte.
abbrev pub begin_alike : List ℕ → List ℕ → Bool
begin_alike (b ∷ bs) (c ∷ cs) = b == c
begin_alike word name = false

-- A name is near a word at this distance: a short one, and where that is more than one, the two
-- begin alike.
abbrev pub is_near_at : ℕ → List ℕ → List ℕ → Bool
is_near_at far word name =
    is_short far name && (not (nat_lt 1 far) || begin_alike word name)

-- A name is near a word.
abbrev pub is_near : List ℕ → List ℕ → Bool
is_near word name = is_near_at (distance word name) word name

-- Words between two texts.
abbrev pub around : (before word after : List ℕ) → List ℕ
around before word after = before ++ word ++ after

-- The first command whose name is near a word.
unfoldable pub near_command : List ℕ → Option CommandName
near_command word = find (λ command. is_near word (command_text command)) commands

-- A command takes an option of this long name.
abbrev pub takes : CommandName → CommandOption → Bool
takes command option = is_some (name_option command (option_text option))

-- A command takes an option whose name is near a word.
abbrev pub is_near_option : CommandName → List ℕ → CommandOption → Bool
is_near_option command word option = takes command option && is_near word (option_text option)

-- The first option that a command takes and whose name is near a word.
abbrev pub near_option : CommandName → List ℕ → Option CommandOption
near_option command word = find (is_near_option command word) options

-- The command that was perhaps meant.
abbrev pub perhaps_command : Option CommandName → List ℕ
perhaps_command None = []
perhaps_command (Some command) =
    around (codes "; did you mean '") (command_text command) (codes "'?")

-- The page that lists the options of a command.
abbrev pub options_page : CommandName → List ℕ
options_page command =
    around (codes "; keepass ") (command_text command) (codes " --help lists its options")

-- The option that was perhaps meant, and else where the options of the command are listed.
abbrev pub perhaps_option : CommandName → Option CommandOption → List ℕ
perhaps_option command None = options_page command
perhaps_option command (Some option) =
    around (codes "; did you mean '--") (option_text option) (codes "'?")

-- ---- what is said of each cause

-- A word that no command is called by, and the command that was perhaps meant.
unfoldable pub unknown_or_near : List ℕ → Option CommandName → List ℕ
unknown_or_near word near = around (codes "unknown command '") word (codes "'")
    ++ perhaps_command near

-- A word that no command is called by.
abbrev pub unknown_command : List ℕ → List ℕ
unknown_command word =
    unknown_or_near word (near_command word) ++ codes "; keepass --help lists them"

-- An option that a command does not take, after what it begins with.
abbrev pub not_taken : CommandName → (sign name : List ℕ) → List ℕ
not_taken command sign name = command_text command
    ++ around (codes " takes no option '") sign [] ++ around [] name (codes "'")

-- A long name of no option that a command takes.
abbrev pub unknown_option : CommandName → List ℕ → List ℕ
unknown_option command name =
    not_taken command (codes "--") name ++ perhaps_option command (near_option command name)

-- A letter of no option that a command takes, or a word of such letters.
abbrev pub unknown_letters : CommandName → (sign letters : List ℕ) → List ℕ
unknown_letters command sign letters = not_taken command sign letters ++ options_page command

-- A position more than a command takes.
abbrev pub extra_position : CommandName → List ℕ → List ℕ
extra_position command word = around (codes "one word too many: '") word (codes "'; ")
    ++ command_text command ++ codes " takes " ++ positions_text command

-- Fewer positions than a command needs.
abbrev pub few_positions : CommandName → List ℕ
few_positions command = command_text command ++ codes " needs " ++ positions_text command

-- An option whose next word is an option.
abbrev pub option_as_value : List ℕ → List ℕ
option_as_value word = around (codes "'") word
    (codes "' needs a value; one that begins with - is joined to it: ")
    ++ around [] word (codes "=VALUE")

-- An option by its long name, and what is said of it.
abbrev pub about_option : CommandOption → List ℕ → List ℕ
about_option option text = around (codes "'--") (option_text option) text

-- An option by its letter, and what is said of it.
abbrev pub about_letter : ℕ → List ℕ → List ℕ
about_letter letter text = codes "'-" ++ letter ∷ [] ++ text

-- Two options that do not go together.
abbrev pub not_together : CommandOption → CommandOption → List ℕ
not_together option other = about_option option (codes "' does not go with '--")
    ++ around [] (option_text other) (codes "'")

-- What a cost of a key derivation counts.
abbrev pub cost_unit : CommandOption → List ℕ
cost_unit Memory = codes "KiB, as 65536 for 64 MiB"
cost_unit Rounds = codes "rounds of AES or passes of Argon2"
cost_unit option = codes "lanes"

-- A cost of a key derivation that is no number of one to ten digits.
abbrev pub unknown_cost : CommandOption → List ℕ → List ℕ
unknown_cost option text = about_option option (codes "' needs a number of ") ++ cost_unit option
    ++ around (codes ", in one to ten digits: '") text (codes "'")

-- The number of a version that is none.
abbrev pub unknown_number : CommandOption → List ℕ → List ℕ
unknown_number option text = about_option option
    (codes "' needs the number of a version, in one to six digits: '")
    ++ around [] text (codes "'")

-- Nothing of an entry is changed.
abbrev pub nothing_edited : List ℕ
nothing_edited = codes "nothing to change: give -t, -u, --url, --notes, -p, -g, --otp, "
    ++ codes "--set, --unset, --tag, --untag or --expires"

-- Nothing is changed, or no key is left.
abbrev pub nothing_text : Cause → List ℕ
nothing_text NoKeyLeft = codes "no key is left: a database needs a password or a key file"
nothing_text NoFileChange =
    codes "nothing to change: give another key, --cipher, --kdf or --version"
nothing_text KeyFileChangesNothing =
    codes "nothing to change: --set-key-file sets a key file, -k only opens with one"
nothing_text cause = nothing_edited

-- What is said of the settings of a file.
abbrev pub settings_text : Cause → List ℕ
settings_text (UnknownCipher name) = around (codes "unknown cipher '") name
    (codes "': aes or twofish or chacha20")
settings_text (UnknownKdf name) = around (codes "unknown key derivation '") name
    (codes "': aes or argon2d or argon2id")
settings_text (UnknownVersion name) = around (codes "unknown version '") name
    (codes "': 3.1 or 4.0 or 4.1")
settings_text (UnknownCost option text) = unknown_cost option text
settings_text (NeedsKdf option) = about_option option (codes "' needs '--kdf'")
settings_text (NeedsArgon option) =
    about_option option (codes "' needs '--kdf argon2d' or '--kdf argon2id'")
settings_text cause = nothing_text cause

-- What gives an entry another value of a field that every entry has.
abbrev pub standard_giver : List ℕ → List ℕ
standard_giver name =
    if bytes_eq name (codes "Title") then codes "-t gives another title"
    else (if bytes_eq name (codes "UserName") then codes "-u gives another one"
    else (if bytes_eq name (codes "Password") then codes "-p gives another one"
    else (if bytes_eq name (codes "URL") then codes "--url gives another one"
    else codes "--notes gives others")))

-- An option that names fields of one's own, and one that every entry has.
abbrev pub standard_field : CommandOption → List ℕ → List ℕ
standard_field option name = about_option option (codes "' does not take '")
    ++ around [] name (codes "': ") ++ standard_giver name

-- A text that is no tag.
abbrev pub unknown_tag : CommandOption → List ℕ → List ℕ
unknown_tag option text = about_option option
    (codes "' needs one tag, without ; and , and white space around it: '")
    ++ around [] text (codes "'")

-- What is said of an attachment.
abbrev pub attachment_text : Cause → List ℕ
attachment_text (FileBesideStdout file) =
    around (codes "'--stdout' does not go with FILE: '") file (codes "'")
attachment_text NoFileOrStdout = codes "attachment-export needs FILE or --stdout"
attachment_text EmptyAttachmentName = codes "attachment-import needs the name of an attachment"
attachment_text cause = settings_text cause

-- What is said of an entry's further fields, its tags, and when it expires.
abbrev pub further_text : Cause → List ℕ
further_text (EmptyFieldName option) =
    about_option option (codes "' needs the name of a field")
further_text (StandardField option name) = standard_field option name
further_text (UnknownTag option text) = unknown_tag option text
further_text NeedsSet = codes "'--protect' needs '--set NAME'"
further_text (UnknownTime text) =
    around (codes "'--expires' needs a time as 2027-01-31T00:00:00Z, or never: '") text (codes "'")
further_text cause = attachment_text cause

-- What does not go together beside what opens databases, and what is said of versions, of
-- generated passwords and of tests.
abbrev pub profile_text : Cause → List ℕ
profile_text (NotTogether option other) = not_together option other
profile_text (NeedsGenerate option) = about_option option (codes "' needs '--generate'")
profile_text (UnknownNumber option text) = unknown_number option text
profile_text (UnknownLength text) = around (codes "unknown length '") text (codes "': 1 to 4096")
profile_text (UnknownCount text) =
    around (codes "unknown number of entries '") text (codes "': 1 to 50000")
profile_text NoCharacters = codes "no characters are left: --exclude has all of them"
profile_text cause = further_text cause

-- A command that is given no key for its new database.
abbrev pub no_new_key : CommandName → List ℕ
no_new_key command = command_text command
    ++ codes " needs a key for the new database: -p, --set-key-file FILE, or --plain for none"

-- What all words lack together, or what does not go together.
abbrev pub whole_text : Cause → List ℕ
whole_text ManySources = codes "a merge has at most 16 sources: merge the others in a second call"
whole_text (NotWithPlain option) =
    about_option option (codes "' does not go with '--plain': an XML export has no key")
whole_text (NotWithSame option) =
    about_option option (codes "' does not go with '--same-credentials'")
whole_text NoKeyFile = codes "'--no-password' needs a key file: -k FILE"
whole_text NoKeyFileFrom = codes "'--no-password-from' needs '--key-file-from FILE'"
whole_text (NoNewKey command) = no_new_key command
whole_text (UnknownImportFormat name) = around (codes "unknown format '") name
    (codes "': xml or psafe3 or csv or bitwarden")
whole_text (UnknownExportFormat name) = around (codes "unknown format '") name
    (codes "': xml or csv")
whole_text cause = profile_text cause

-- What is said of an option by its name or its letter.
abbrev pub option_line : Cause → List ℕ
option_line (TakesNoValue option) = about_option option (codes "' takes no value")
option_line (LetterTakesNoValue letter) = about_letter letter (codes "' takes no value")
option_line (OptionTwice option) = about_option option (codes "' is given twice")
option_line (JoinedValue letter) =
    about_letter letter (codes "' has a value and needs its own hyphen")
option_line (UnknownOption command name) = unknown_option command name
option_line (UnknownLetter command letter) = unknown_letters command (codes "-") (letter ∷ [])
option_line (UnknownWord command word) = unknown_letters command [] word
option_line cause = whole_text cause

-- A word asks for the version as some programs are asked for it.
abbrev pub asks_version : List ℕ → Bool
asks_version word =
    bytes_eq word (codes "-v") || bytes_eq word (codes "-V") || bytes_eq word (codes "-version")

-- The page that is perhaps meant by an option that is the first word.
unfoldable pub page_meant : List ℕ → List ℕ
page_meant word = if asks_version word
    then codes "keepass --version prints the version" else codes "keepass --help lists them"

-- An option that is the first word.
abbrev pub option_first : List ℕ → List ℕ
option_first word =
    around (codes "a command comes first, before '") word (codes "'; ") ++ page_meant word

-- Why words are no command.
abbrev pub cause_text : Cause → List ℕ
cause_text NoCommand = codes "no command; keepass --help lists them"
cause_text (OptionFirst word) = option_first word
cause_text (UnknownCommand word) = unknown_command word
cause_text (FlagsTwice word) = around (codes "a flag of '") word (codes "' is given twice")
cause_text (NoValue word) = around (codes "'") word (codes "' needs a value")
cause_text (OptionAsValue word) = option_as_value word
cause_text (FewPositions command) = few_positions command
cause_text (ExtraPosition command word) = extra_position command word
cause_text cause = option_line cause

-- ---- the line

-- A byte as it is shown: a control character, which could end the line, is `?`.
abbrev pub shown_byte : ℕ → ℕ
shown_byte byte = if nat_lt byte 32 || byte == 127 then 63 else byte

-- The line that says why words are no command; nothing where there is no cause.
abbrev pub cause_line : Option Cause → List ℕ
cause_line None = []
cause_line (Some cause) = map shown_byte (cause_text cause) ++ codes "\n"
