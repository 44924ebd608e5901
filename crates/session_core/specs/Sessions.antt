-- A session: one database stays open, and lines of the input are commands on it.
use Rattle.std.specs.Prelude.{◌++◌, ℕ, zero, suc, if◌then◌else◌, nat_le, List, [], ◌∷◌, codes, Option, None, Some, Result, Ok, Err}
use Rattle.cli_messages.specs.declared.answers.Reason.TheVariants.{LineLimit}
use Rattle.cli_messages.specs.declared.answers.Refusal.{Refusal}
use Rattle.cli_messages.specs.Messages.{error_line, reason_text, refusal_of, status_of}
use Rattle.cli_messages.specs.Phases.{StreamAnswer}
use Rattle.cli_needs.specs.declared.command.Command.{Command}
use Rattle.cli_lines.specs.Lines.{LastLines, lines_with}
use Rattle.call_run.specs.CliFiles.Files.{Opened}
use Rattle.call_run.specs.CliFiles.Tasks.{Task}
use Rattle.cli_writing.specs.Writing.{NewFile}
use Rattle.call_run.specs.CliCommands.Commands.{Change}
use Rattle.session_core.specs.Reading.{LineRead, LineRequest, line_read}
use Rattle.cli_sessions.specs.declared.opening.SessionDatabase.{SessionDatabase}
use Rattle.session_core.specs.Reading as request
use Rattle.call_run.specs.Endings.{Ending, change_of_task, ended_with, opened_after, targets_of}

-- ---- what a session is over

-- The most command lines of a session, those without a word among them. The lines that a command
-- asks for do not count.
abbrev pub session_line_limit : ℕ
session_line_limit = 65536

-- Where a session is: its database as the lines so far left it, the number of the next line of the
-- input, and what is left of the input and of the dice.
pub record SessionState : Type 0 where
  pub opened : Opened
  pub number : ℕ
  pub input : List ℕ
  pub dice : List ℕ

-- What a session results in: its status, what it prints, its lines on standard error, the file as
-- the last line that wrote it left it, if one did, and what is left of the input and of the dice;
-- and the database as the last line left it.
pub record SessionOutcome : Type 0 where
  pub status : ℕ
  pub text : List ℕ
  pub errors : List ℕ
  pub file : Option NewFile
  pub left : List ℕ
  pub dice : List ℕ
  pub opened : Opened

-- A session that ends in this state, with a status and its line.
abbrev pub ended : ℕ → List ℕ → SessionState → SessionOutcome
ended status errors state = record {
  status = status;
  text = [];
  errors = errors;
  file = None;
  left = state.input;
  dice = state.dice;
  opened = state.opened;
}

-- What one line does: it ends the session, or it prints a text and an error line and writes a file,
-- each if any, and the session continues.
pub data LineOutcome : Type 0 where
  ends : SessionOutcome → LineOutcome
  continues : (text errors : List ℕ) → Option NewFile → SessionState → LineOutcome

-- A refusal's line on standard error.
abbrev pub refusal_line : Refusal → List ℕ
refusal_line refusal = error_line refusal.subject (reason_text refusal.reason)

-- A line that was refused: a session continues after a refusal of status 1 or 2, and ends with any
-- other.
abbrev pub refused_line : Refusal → SessionState → LineOutcome
refused_line refusal state = if nat_le (status_of refusal.reason) 2
    then continues [] (refusal_line refusal) None state
    else ends (ended (status_of refusal.reason) (refusal_line refusal) state)

-- ---- one line

-- The task of a line: its command, with the lines after it, on the database of the session.
abbrev pub line_task : Opened → Command → LastLines → Task
line_task opened command last = record {
  command = command;
  lines = lines_with None [] last;
  opened = opened;
  sources = [];
  attached = None;
}

-- A line whose file was written, if it writes one, or refused: its text is printed, and the session
-- continues with the database that the change left.
abbrev pub line_by_file : SessionState → Change → Result Ending Refusal → List ℕ → LineOutcome
line_by_file state change (Ok ending) dice = continues ending.text [] ending.file
    (record state { opened = opened_after state.opened change.doc; dice = dice })
line_by_file state change (Err refusal) dice = refused_line refusal (record state { dice = dice })

-- A line whose command made this change, with the outcome of writing its file.
abbrev pub written_line : SessionState → Change → StreamAnswer Ending → LineOutcome
written_line state change written = line_by_file state change written.answer written.left

-- A line whose command made this change, or was refused.
abbrev pub line_by_change : SessionState → Task → Result Change Refusal → List ℕ → LineOutcome
line_by_change state task (Ok change) dice = written_line state change
    (ended_with (targets_of task.command) task.opened.sealing change dice)
line_by_change state task (Err refusal) dice = refused_line refusal (record state { dice = dice })

-- A line with this task.
abbrev pub task_line : ℕ → SessionState → Task → LineOutcome
task_line time state task = line_by_change state task
    (change_of_task time task state.dice).answer (change_of_task time task state.dice).left

-- A line that asks for this, or was refused.
abbrev pub line_by_request : ℕ → SessionState → Result LineRequest Refusal → LineOutcome
line_by_request time state (Ok request.ends) = ends (ended 0 [] state)
line_by_request time state (Ok request.nothing) = continues [] [] None state
line_by_request time state (Ok (request.asks command last)) =
    task_line time state (line_task state.opened command last)
line_by_request time state (Err refusal) = refused_line refusal state

-- The state after a line was read.
abbrev pub state_after : SessionState → LineRead → SessionState
state_after state read = record state { number = read.number; input = read.left }

-- What a line does of which this was read.
abbrev pub line_after : ℕ → SessionState → LineRead → LineOutcome
line_after time state read = line_by_request time (state_after state read) read.answer

-- What the next line of a session does.
abbrev pub line_outcome : ℕ → SessionDatabase → SessionState → LineOutcome
line_outcome time database state =
    line_after time state (line_read database state.number state.input)

-- ---- all lines

-- The last file written, if any. All have the name of the session's file.
abbrev pub last_file : (earlier later : Option NewFile) → Option NewFile
last_file earlier None = earlier
last_file earlier (Some later) = Some later

-- A session's outcome with this output before it.
abbrev pub with_before : (text errors : List ℕ) → Option NewFile → SessionOutcome → SessionOutcome
with_before text errors file outcome = record outcome {
  text = text ++ outcome.text;
  errors = errors ++ outcome.errors;
  file = last_file file outcome.file;
}

-- A line, and then the rest of the session.
abbrev pub then_rest : LineOutcome → (SessionState → SessionOutcome) → SessionOutcome
then_rest (ends outcome) rest = outcome
then_rest (continues text errors file state) rest = with_before text errors file (rest state)

-- After the last command line that a session may have, it ends where its input does. Otherwise the
-- limit is passed; the first byte that shows this is read.
abbrev pub after_limit : SessionState → List ℕ → SessionOutcome
after_limit state [] = ended 0 [] state
after_limit state (b ∷ rest) = ended (status_of LineLimit)
    (refusal_line (refusal_of LineLimit (codes "input"))) (record state { input = rest })

-- A session from this state on, of which at most so many command lines are read.
abbrev pub session_from : (most : ℕ) → ℕ → SessionDatabase → SessionState → SessionOutcome
session_from zero time database state = after_limit state state.input
session_from (suc most) time database state =
    then_rest (line_outcome time database state) (session_from most time database)

-- What a session results in that begins in this state.
abbrev pub session : ℕ → SessionDatabase → SessionState → SessionOutcome
session time database state = session_from session_line_limit time database state
