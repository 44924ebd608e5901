-- That a session is its lines as single calls, each statement by itself.
use Rattle.std.specs.Prelude.{◌≡◌, ◌≢◌, ℕ, IfSome, List, [], option_map, Option, None, Some, Ok}
use Rattle.outside_core.specs.Files.{FileMap}
use Rattle.kdbx_frame.specs.declared.sealings.Sealing.{Sealing}
use Rattle.cli_needs.specs.declared.command.Command.TheVariants.{Info}
use Rattle.cli_lines.specs.Lines.{LastLines, Lines, lines_of, lines_with}
use Rattle.cli_files.specs.Files.{Opened}
use Rattle.cli_writing.specs.Writing.{NewFile}
use Rattle.resealing_laws.specs.Salts.{unsalted}
use Rattle.call_input.specs.Opening.{databases_for, one_database}
use Rattle.session_core.specs.ReadsBack.{SessionReadsBack}
use Rattle.session_core.specs.Sessions.{SessionOutcome, SessionState, continues, line_outcome, session}
use Rattle.cli_sessions.specs.declared.opening.SessionDatabase.{SessionDatabase}
use Rattle.session_opening.specs.Opening.{opening_needs, session_opened}
use Rattle.session_laws.specs.Calls.{CallState, CallsOutcome, files_after, session_by_calls}

-- ---- a database in memory and in its file

-- What a file is sealed with, without the seed or salt of the key derivation.
abbrev pub unsalted_sealing : Sealing → Sealing
unsalted_sealing sealing = record sealing { settings = unsalted sealing.settings }

-- An opened database without that seed or salt.
abbrev pub without_salt : Opened → Opened
without_salt opened = record opened { sealing = option_map unsalted_sealing opened.sealing }

-- Opened databases differ in that seed or salt at most: each file that is written gets another one,
-- which a session does not read again. Plain documents have none, and are equal.
abbrev pub AreAlike : Opened → Opened → Type 0
AreAlike one other = without_salt one ≡ without_salt other

-- A command that asks for nothing has no lines after the passwords.
abbrev pub no_last : LastLines
no_last = record { more = None; otp = None; fields = [] }

-- The files hold the database of a session as it is in memory: a call opens it as this database
-- under the password.
pub record IsInFiles (time : ℕ) (database : SessionDatabase) (password : Option (List ℕ))
    (files : FileMap) (opened : Opened) : Type 0 where
  pub target : Opened
  pub opens : databases_for (Info database.access database.file)
      (lines_with password [] no_last) time files ≡ Ok (one_database target)
  pub alike : AreAlike target opened

-- ---- the law

-- Where calls are over these files that begin where a session does.
abbrev pub calls_at : FileMap → SessionState → CallState
calls_at files state = record {
  files = files;
  number = state.number;
  input = state.input;
  dice = state.dice;
}

-- What a session results in over these files, of which it has written its own if it wrote one.
abbrev pub over_files : FileMap → SessionOutcome → CallsOutcome
over_files files outcome = record {
  status = outcome.status;
  text = outcome.text;
  errors = outcome.errors;
  files = files_after files outcome.file;
  left = outcome.left;
  dice = outcome.dice;
}

-- A file that was written, if one was, is that of the session's database.
abbrev pub IsOwnFile : SessionDatabase → Option NewFile → Type 0
IsOwnFile database file = IfSome file (λ written. written.name ≡ database.file)

-- A session from this state on, over these files:
pub record IsItsLines (time : ℕ) (database : SessionDatabase) (password : Option (List ℕ))
    (files : FileMap) (state : SessionState) : Type 0 where
  -- its status, its output, the files after it and what it leaves are those of its lines as single
  -- calls;
  pub same : over_files files (session time database state)
      ≡ session_by_calls time database password (calls_at files state)
  -- a file that it wrote is its own;
  pub own : IsOwnFile database (session time database state).file
  -- and the files hold its database as it is in memory then.
  pub holds : IsInFiles time database password
      (files_after files (session time database state).file) (session time database state).opened

-- So it is with each session on a database that the files hold, if its key file, where it has one,
-- is another file, and what its lines write reads back.
abbrev pub SessionsAreTheirLines : Type 0
SessionsAreTheirLines = (time : ℕ) (database : SessionDatabase) (password : Option (List ℕ))
    (files : FileMap) (state : SessionState)
    → IsInFiles time database password files state.opened
    → database.access.key_file ≢ Some database.file
    → SessionReadsBack time database state
    → IsItsLines time database password files state

-- A file that a line writes is that of the session's database.
abbrev pub LinesWriteTheirOwnFile : Type 0
LinesWriteTheirOwnFile = (time : ℕ) (database : SessionDatabase) (state after : SessionState)
    (text errors : List ℕ) (file : NewFile)
    → line_outcome time database state ≡ continues text errors (Some file) after
    → file.name ≡ database.file

-- A session begins so: what it opens is in the files, under the password that it read.
abbrev pub SessionsBeginInFiles : Type 0
SessionsBeginInFiles = (time : ℕ) (database : SessionDatabase) (input : List ℕ) (files : FileMap)
    (opened : Opened) → (session_opened database input files).answer ≡ Ok opened
    → (lines : Lines) × (((lines_of (opening_needs database) input).answer ≡ Ok lines)
    × IsInFiles time database lines.password files opened)
