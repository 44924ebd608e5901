-- What a session opens as it begins.
use Rattle.std.specs.Prelude.{◌≡◌, ℕ, false, List, Result, Ok}
use Rattle.outside_core.specs.Files.{FileMap}
use Rattle.outside_core.specs.Results.{◌>>=◌}
use Rattle.cli_messages.specs.declared.answers.Refusal.{Refusal}
use Rattle.cli_messages.specs.Phases.{StreamAnswer, then_left, with_left}
use Rattle.cli_needs.specs.Needs.{Needs, without_sources}
use Rattle.cli_lines.specs.Lines.{Lines, lines_of, number_from}
use Rattle.cli_databases.specs.CliFiles.Files.{Databases, Opened}
use Rattle.cli_databases.specs.Databases.{databases_of}
use Rattle.cli_databases.specs.Held.{HoldDatabases}
use Rattle.cli_sessions.specs.declared.opening.SessionDatabase.{SessionDatabase}

-- What a session asks for as it begins: its database, and the password of that, where it has one.
abbrev pub opening_needs : SessionDatabase → Needs
opening_needs database = without_sources database.access database.file false

-- The number of its first line after that.
abbrev pub first_number : SessionDatabase → ℕ
first_number database = number_from (opening_needs database)

-- The database that a session opens by the lines that were asked for.
abbrev pub opened_by : SessionDatabase → Lines → FileMap → Result Opened Refusal
opened_by database lines files =
    databases_of (opening_needs database) lines files >>= λ databases. Ok databases.target

-- The database that a session opens over this input and these files, and what is left of the input.
unfoldable pub session_opened : SessionDatabase → List ℕ → FileMap → StreamAnswer Opened
session_opened database input files = then_left (lines_of (opening_needs database) input)
    (λ lines left. with_left (opened_by database lines files) left)

-- The files hold a database as the session opens it, under the password that the input begins with.
pub record HoldsSession (database : SessionDatabase) (input : List ℕ) (files : FileMap)
    (opened : Opened) : Type 0 where
  pub lines : Lines
  pub are_lines : (lines_of (opening_needs database) input).answer ≡ Ok lines
  pub databases : Databases
  pub is_target : databases.target ≡ opened
  pub hold : HoldDatabases (opening_needs database) lines files databases
