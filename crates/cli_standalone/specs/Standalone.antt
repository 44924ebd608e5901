-- Which command that needs no database the words of a call are.
use Rattle.std.specs.Prelude.{◌&&◌, ℕ, ◌≤◌, nat_le, if◌then◌else◌, List, [], ◌∷◌, Option, None, Some, option_and_then, option_map}
use Rattle.cli_options.specs.declared.names.CommandName.{CommandName}
use Rattle.cli_options.specs.declared.names.CommandName.TheVariants as name
use Rattle.cli_options.specs.Credentials.{is_whole}
use Rattle.cli_options.specs.Numbers.{number_of}
use Rattle.cli_options.specs.Options.{command_named}
use Rattle.cli_options.specs.Said.{Said, nothing_said, with_words}
use Rattle.cli_profiles.specs.Profiles.{IsProfile, profile_in}
use Rattle.cli_standalone.specs.declared.standalone.Standalone.{Standalone}
use Rattle.cli_standalone.specs.declared.standalone.Standalone.TheVariants.{Password, SelfTest}

-- The number, if a test can have so many entries: 1 to 50,000.
abbrev pub as_count : ℕ → Option ℕ
as_count number = if nat_le 1 number && nat_le number 50000 then Some number else None

-- The number of entries that a text of one to six digits is.
abbrev pub test_count : List ℕ → Option ℕ
test_count text = option_and_then as_count (number_of 6 text)

-- `selftest N`
abbrev pub self_test_at : List (List ℕ) → Option Standalone
self_test_at (text ∷ []) = option_map SelfTest (test_count text)
self_test_at positions = None

-- `generate`
abbrev pub password_at : Said → List (List ℕ) → Option Standalone
password_at said [] = option_map Password (profile_in said)
password_at said positions = None

-- What the command of this name is at these positions; most commands have a database.
abbrev pub standalone_at : CommandName → Said → List (List ℕ) → Option Standalone
standalone_at name.Generate said positions = password_at said positions
standalone_at name.SelfTest said positions = self_test_at positions
standalone_at command said positions = None

-- What the command of this name is whose other words say this.
abbrev pub standalone_saying : CommandName → Said → Option Standalone
standalone_saying command said =
    if is_whole said then standalone_at command said said.positions else None

-- What the command of this name is with these words after it.
abbrev pub standalone_by : List (List ℕ) → CommandName → Option Standalone
standalone_by words command =
    option_and_then (standalone_saying command) (with_words command words nothing_said)

-- The command that the words are, if they are one that needs no database: its name, and then its
-- options and its positions in any order.
abbrev pub standalone_of : List (List ℕ) → Option Standalone
standalone_of [] = None
standalone_of (word ∷ words) = option_and_then (standalone_by words) (command_named word)

-- It can be carried out: a password can be chosen by its profile, and a test has 1 to 50,000 entries.
abbrev pub IsStandalone : Standalone → Type 0
IsStandalone (Password profile) = IsProfile profile
IsStandalone (SelfTest count) = (1 ≤ count) × (count ≤ 50000)
