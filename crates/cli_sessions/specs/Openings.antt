-- Which words of a call open a session, and over which database.
use Rattle.std.specs.Prelude.{ℕ, if◌then◌else◌, List, [], ◌∷◌, Option, None, Some, option_and_then}
use Rattle.cli_options.specs.declared.names.CommandName.{CommandName}
use Rattle.cli_options.specs.declared.names.CommandName.TheVariants as name
use Rattle.cli_options.specs.Credentials.{is_whole}
use Rattle.cli_options.specs.Options.{command_named}
use Rattle.cli_options.specs.Said.{Said, nothing_said, with_words}
use Rattle.cli_parse.specs.Words.{access_of}
use Rattle.cli_sessions.specs.declared.opening.SessionDatabase.{SessionDatabase}

-- `open DATABASE`
abbrev pub opening_at : Said → List (List ℕ) → Option SessionDatabase
opening_at said (file ∷ []) = Some (record { access = access_of said; file = file })
opening_at said positions = None

-- The session that the command of this name opens, whose other words say this; only `open` opens one.
abbrev pub opening_saying : CommandName → Said → Option SessionDatabase
opening_saying name.Open said =
    if is_whole said then opening_at said said.positions else None
opening_saying command said = None

-- The session that the command of this name opens, with these words after it.
abbrev pub opening_by : List (List ℕ) → CommandName → Option SessionDatabase
opening_by words command =
    option_and_then (opening_saying command) (with_words command words nothing_said)

-- The session that the words of a call open, if they open one: how its database is opened, and its
-- file.
abbrev pub opening_of : List (List ℕ) → Option SessionDatabase
opening_of [] = None
opening_of (word ∷ words) = option_and_then (opening_by words) (command_named word)
