-- How far a session has come.
use Rattle.std.specs.Prelude.{◌≡◌, ◌⊎◌, ℕ, zero, suc, ◌++◌, List, [], Option, None, Some, option_and_then}
use Rattle.cli_sessions.specs.declared.opening.SessionDatabase.{SessionDatabase}
use Rattle.cli_writing.specs.Writing.{NewFile}
use Rattle.session_core.specs.Sessions.{LineOutcome, SessionState, after_limit, continues, ends, last_file, line_outcome, session_line_limit}

-- What the lines of a session did so far: what they printed, their lines on standard error, the file
-- as the last of them that wrote it left it, if one did, and where the session is.
pub record Progress : Type 0 where
  pub text : List ℕ
  pub errors : List ℕ
  pub file : Option NewFile
  pub state : SessionState

-- Before the first line.
abbrev pub nothing_done : SessionState → Progress
nothing_done state = record { text = []; errors = []; file = None; state = state }

-- After a line more, if that did not end the session.
abbrev pub with_line : Progress → LineOutcome → Option Progress
with_line progress (ends outcome) = None
with_line progress (continues text errors file state) = Some (record {
  text = progress.text ++ text;
  errors = progress.errors ++ errors;
  file = last_file progress.file file;
  state = state;
})

-- What the first lines of a session did, so many of them, if none of them ended it.
abbrev pub after_lines : (lines : ℕ) → ℕ → SessionDatabase → SessionState → Option Progress
after_lines zero time database state = Some (nothing_done state)
after_lines (suc lines) time database state = option_and_then
    (λ progress. with_line progress (line_outcome time database progress.state))
    (after_lines lines time database state)

-- What comes after the first lines of a session, so many of them: the next line, or after the last one
-- that a session may have, the end of the input.
abbrev pub ComesAfter : (lines : ℕ) → ℕ → SessionDatabase → SessionState → LineOutcome → Type 0
ComesAfter lines time database state next = (next ≡ line_outcome time database state)
    ⊎ ((lines ≡ session_line_limit) × (next ≡ ends (after_limit state state.input)))
