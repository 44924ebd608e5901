-- What the lines of a session write holds the document that they leave.
use Rattle.std.specs.Prelude.{ℕ, zero, suc, IfSome, Option}
use Rattle.kdbx_frame.specs.declared.sealings.Sealing.{Sealing}
use Rattle.call_run.specs.Endings.{HoldsNew}
use Rattle.cli_sessions.specs.declared.opening.SessionDatabase.{SessionDatabase}
use Rattle.session_core.specs.Sessions.{LineOutcome, SessionState, continues, ends, line_outcome, session_line_limit}

-- If a line wrote a file, its bytes hold the document that the line left, as the session's database
-- holds it: by itself, or sealed so.
abbrev pub LineReadsBack : Option Sealing → LineOutcome → Type 0
LineReadsBack sealing (ends outcome) = Unit {0}
LineReadsBack sealing (continues text errors file after) =
    IfSome file (λ written. HoldsNew sealing after.opened.doc written.bytes)

-- This holds of the state after a line, where the session continues.
abbrev pub IfContinues : LineOutcome → (SessionState → Type 0) → Type 0
IfContinues (ends outcome) P = Unit {0}
IfContinues (continues text errors file after) P = P after

-- So it is with each of at most so many lines.
abbrev pub LinesReadBack : (most : ℕ) → ℕ → SessionDatabase → SessionState → Type 0
LinesReadBack zero time database state = Unit {0}
LinesReadBack (suc most) time database state =
    LineReadsBack state.opened.sealing (line_outcome time database state)
    × IfContinues (line_outcome time database state) (LinesReadBack most time database)

-- And with each line of a session.
abbrev pub SessionReadsBack : ℕ → SessionDatabase → SessionState → Type 0
SessionReadsBack time database state = LinesReadBack session_line_limit time database state
