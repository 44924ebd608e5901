-- Which command a line of a session is. A session keeps one database open; its lines are the words of
-- commands without that database.
use Rattle.std.specs.Prelude.{◌≡◌, ℕ, Bool, true, false, not, ◌&&◌, ◌||◌, if◌then◌else◌, List, [], ◌∷◌, ◌++◌, codes, Option, None, Some, Result, option_and_then}
use Rattle.std.specs.Option.{option_map_or}
use Rattle.cli_messages.specs.declared.answers.Refusal.{Refusal}
use Rattle.cli_options.specs.declared.names.CommandName.{CommandName}
use Rattle.cli_options.specs.declared.names.CommandName.TheVariants as name
use Rattle.cli_options.specs.declared.forms.CommandOption.{CommandOption}
use Rattle.cli_options.specs.declared.forms.CommandOption.TheVariants as option
use Rattle.cli_options.specs.Options.{command_named}
use Rattle.cli_options.specs.Said.{Said, is_given, nothing_said, with_text, with_words}
use Rattle.cli_parse.specs.CliNeeds.declared.command.Access.{Access}
use Rattle.cli_parse.specs.CliNeeds.declared.command.Command.{Command}
use Rattle.cli_parse.specs.CliNeeds.declared.command.Command.TheVariants.{Ls, Show, Search, Add, Edit, Restore, Move, Remove, MakeGroup, RemoveGroup, Info}
use Rattle.cli_parse.specs.CliNeeds.Needs.{target_access, target_of}
use Rattle.cli_parse.specs.Words.{command_saying, or_wrong_words}

-- ---- the command of a line

-- A line may be the command of this name.
abbrev pub is_line_name : CommandName → Bool
is_line_name name.Ls = true
is_line_name name.Show = true
is_line_name name.Search = true
is_line_name name.Add = true
is_line_name name.Edit = true
is_line_name name.Move = true
is_line_name name.Remove = true
is_line_name name.MakeGroup = true
is_line_name name.RemoveGroup = true
is_line_name name.Info = true
is_line_name command = false

-- Words say how a database is opened, which a session has settled.
abbrev pub names_access : Said → Bool
names_access said =
    is_given option.Plain said || is_given option.NoPassword said || is_given option.KeyFile said

-- What a line says before its words: its database is its first position.
abbrev pub at_database : List ℕ → Said
at_database file = record nothing_said { positions = file ∷ [] }

-- The text of a flag where it is given: it is empty.
abbrev pub flag_text : Bool → Option (List ℕ)
flag_text true = Some []
flag_text false = None

-- The texts of options with that of this option, where there is one.
abbrev pub with_text_if : CommandOption → Option (List ℕ) → List (Option (List ℕ))
    → List (Option (List ℕ))
with_text_if option None given = given
with_text_if option (Some text) given = with_text given option text

-- What a line says, and how its session opened the database. It is quiet where either is.
abbrev pub with_access : Access → Said → Said
with_access access said = record said {
  given = with_text_if option.Quiet (flag_text access.quiet)
      (with_text_if option.KeyFile access.key_file
      (with_text_if option.NoPassword (flag_text access.no_password)
      (with_text_if option.Plain (flag_text access.plain) said.given)));
}

-- The command of this name whose other words say this, in a session.
abbrev pub line_saying : Access → CommandName → Said → Option Command
line_saying access command said = if is_line_name command && not (names_access said)
    then command_saying command (with_access access said) else None

-- The command of this name with these words after it, in a session on this file.
abbrev pub line_by : Access → List ℕ → List (List ℕ) → CommandName → Option Command
line_by access file words command =
    option_and_then (line_saying access command) (with_words command words (at_database file))

-- The command that the words of a line are, if they are one.
abbrev pub line_in : Access → List ℕ → List (List ℕ) → Option Command
line_in access file [] = None
line_in access file (word ∷ words) =
    option_and_then (line_by access file words) (command_named word)

-- The command that the words of a line are.
abbrev pub line_command : Access → List ℕ → List (List ℕ) → Result Command Refusal
line_command access file words = or_wrong_words (line_in access file words)

-- ---- what is known of it

-- What the words of a line say after the name of their command.
abbrev pub line_said : List ℕ → List (List ℕ) → Option Said
line_said file [] = None
line_said file (word ∷ words) =
    option_and_then (λ command. with_words command words (at_database file)) (command_named word)

-- A line asks by itself that nothing is said of what it changes.
abbrev pub is_quiet_line : List ℕ → List (List ℕ) → Bool
is_quiet_line file words = option_map_or (is_given option.Quiet) (line_said file words) false

-- How the command of a line opens its database: as its session did. It is quiet where the session or
-- the line is.
abbrev pub line_access : Access → List ℕ → List (List ℕ) → Access
line_access access file words =
    record access { quiet = access.quiet || is_quiet_line file words }

-- A command is one of those of lines. A line of `edit` may be one that restores a version.
abbrev pub in_session : Command → Bool
in_session (Ls access file group recursive flat ids) = true
in_session (Show access file entry clear all attachments names totp at) = true
in_session (Search access file term) = true
in_session (Add access file entry asked) = true
in_session (Edit access file entry asked further) = true
in_session (Restore access file entry version) = true
in_session (Move access file node group) = true
in_session (Remove access file entry) = true
in_session (MakeGroup access file group) = true
in_session (RemoveGroup access file group) = true
in_session (Info access file) = true
in_session command = false

-- The command of a line is one of those of lines, over the database of its session.
pub record IsOfSession (access : Access) (file : List ℕ) (words : List (List ℕ)) (command : Command)
    : Type 0 where
  pub kind : in_session command ≡ true
  pub database : target_of command ≡ file
  pub opening : target_access command ≡ line_access access file words

-- ---- a line as a call

-- A word where a test is met.
abbrev pub word_if : Bool → List ℕ → List (List ℕ)
word_if true word = word ∷ []
word_if false word = []

-- The word of a key file, where one is named. Its name may begin with `-`.
abbrev pub key_file_words : Option (List ℕ) → List (List ℕ)
key_file_words None = []
key_file_words (Some name) = (codes "--key-file=" ++ name) ∷ []

-- The words by which a call opens its database so.
abbrev pub access_words : Access → List (List ℕ)
access_words access =
    word_if access.plain (codes "--plain") ++ word_if access.no_password (codes "--no-password")
    ++ key_file_words access.key_file ++ word_if access.quiet (codes "--quiet")

-- A line says what its session has settled: how the database is opened, or `-q` in a quiet session.
abbrev pub repeats_access : Access → Said → Bool
repeats_access access said =
    names_access said || (access.quiet && is_given option.Quiet said)
