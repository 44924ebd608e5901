-- A session as single calls: each line is a call of its own, which opens the file anew.
use Rattle.std.specs.Prelude.{ℕ, zero, suc, ◌++◌, if◌then◌else◌, nat_le, codes, List, [], ◌∷◌, Option, None, Some, Result, Ok, Err}
use Rattle.std.specs.FinMap as map
use Rattle.outside_core.specs.Files.{FileMap}
use Rattle.cli_messages.specs.declared.answers.Reason.TheVariants.{LineLimit}
use Rattle.cli_messages.specs.declared.answers.Refusal.{Refusal}
use Rattle.cli_messages.specs.Messages.{refusal_of, status_of}
use Rattle.cli_messages.specs.Phases.{StreamAnswer, then_left, with_left}
use Rattle.cli_needs.specs.declared.command.Command.{Command}
use Rattle.cli_lines.specs.Lines.{Lines, lines_with}
use Rattle.cli_writing.specs.Writing.{NewFile}
use Rattle.call_input.specs.Reading.{opened_task}
use Rattle.session_core.specs.CallRun.Endings.{Ending, carried_out}
use Rattle.session_core.specs.Reading as request
use Rattle.session_core.specs.Reading.{LineRead, LineRequest, line_read}
use Rattle.session_core.specs.Sessions.{refusal_line, session_line_limit}
use Rattle.cli_sessions.specs.declared.opening.SessionDatabase.{SessionDatabase}

-- ---- one call

-- What a single call of a command with these lines gives at a moment, over these files and these
-- dice: its databases are opened, and then it is carried out.
abbrev pub call_answer : Command → Lines → ℕ → FileMap → List ℕ → StreamAnswer Ending
call_answer command lines time files dice =
    then_left (with_left (opened_task command lines time files) dice) (carried_out time)

-- Files after one was written, if one was.
abbrev pub files_after : FileMap → Option NewFile → FileMap
files_after files None = files
files_after files (Some file) = map.insert files file.name file.bytes

-- ---- what calls are over

-- Where calls are that follow one another: the files, the number of the next line of the input, and
-- what is left of the input and of the dice. Nothing is kept in memory between them.
pub record CallState : Type 0 where
  pub files : FileMap
  pub number : ℕ
  pub input : List ℕ
  pub dice : List ℕ

-- What calls that follow one another result in: a status, what they print, their lines on standard
-- error, the files, and what is left of the input and of the dice.
pub record CallsOutcome : Type 0 where
  pub status : ℕ
  pub text : List ℕ
  pub errors : List ℕ
  pub files : FileMap
  pub left : List ℕ
  pub dice : List ℕ

-- Calls that end in this state, with a status and its line.
abbrev pub calls_ended : ℕ → List ℕ → CallState → CallsOutcome
calls_ended status errors state = record {
  status = status;
  text = [];
  errors = errors;
  files = state.files;
  left = state.input;
  dice = state.dice;
}

-- What the call of one line does: it is the last one, or it prints a text and an error line, each
-- if any, and the next line follows.
pub data CallOutcome : Type 0 where
  last : CallsOutcome → CallOutcome
  goes_on : (text errors : List ℕ) → CallState → CallOutcome

-- A call that was refused: the next line follows after a refusal of status 1 or 2, and it is the
-- last one after any other.
abbrev pub refused_call : Refusal → CallState → CallOutcome
refused_call refusal state = if nat_le (status_of refusal.reason) 2
    then goes_on [] (refusal_line refusal) state
    else last (calls_ended (status_of refusal.reason) (refusal_line refusal) state)

-- ---- one line

-- A call that gave this, and left so much of the dice.
abbrev pub call_by : CallState → Result Ending Refusal → List ℕ → CallOutcome
call_by state (Ok ending) dice = goes_on ending.text []
    (record state { files = files_after state.files ending.file; dice = dice })
call_by state (Err refusal) dice = refused_call refusal (record state { dice = dice })

-- The same.
abbrev pub answered_call : CallState → StreamAnswer Ending → CallOutcome
answered_call state answer = call_by state answer.answer answer.left

-- The call of a line that asks for this, or was refused. A command has the lines after its own, and
-- the password of the database before them.
abbrev pub call_by_request : ℕ → Option (List ℕ) → CallState → Result LineRequest Refusal
    → CallOutcome
call_by_request time password state (Ok request.ends) = last (calls_ended 0 [] state)
call_by_request time password state (Ok request.nothing) = goes_on [] [] state
call_by_request time password state (Ok (request.asks command lines)) = answered_call state
    (call_answer command (lines_with password [] lines) time state.files state.dice)
call_by_request time password state (Err refusal) = refused_call refusal state

-- The state after a line was read.
abbrev pub call_state_after : CallState → LineRead → CallState
call_state_after state read = record state { number = read.number; input = read.left }

-- The call of a line of which this was read.
abbrev pub call_after : ℕ → Option (List ℕ) → CallState → LineRead → CallOutcome
call_after time password state read =
    call_by_request time password (call_state_after state read) read.answer

-- The call of the next line.
abbrev pub call_outcome : ℕ → SessionDatabase → Option (List ℕ) → CallState → CallOutcome
call_outcome time database password state =
    call_after time password state (line_read database state.number state.input)

-- ---- all lines

-- An outcome with this output before it.
abbrev pub after_output : (text errors : List ℕ) → CallsOutcome → CallsOutcome
after_output text errors outcome = record outcome {
  text = text ++ outcome.text;
  errors = errors ++ outcome.errors;
}

-- The call of a line, and then those of the others.
abbrev pub then_calls : CallOutcome → (CallState → CallsOutcome) → CallsOutcome
then_calls (last outcome) rest = outcome
then_calls (goes_on text errors state) rest = after_output text errors (rest state)

-- After the last command line that there may be, the calls end where the input does. Otherwise the
-- limit is passed; the first byte that shows this is read.
abbrev pub calls_at_limit : CallState → List ℕ → CallsOutcome
calls_at_limit state [] = calls_ended 0 [] state
calls_at_limit state (b ∷ rest) = calls_ended (status_of LineLimit)
    (refusal_line (refusal_of LineLimit (codes "input"))) (record state { input = rest })

-- The calls from this state on, of at most so many lines.
abbrev pub calls_from : (most : ℕ) → ℕ → SessionDatabase → Option (List ℕ) → CallState
    → CallsOutcome
calls_from zero time database password state = calls_at_limit state state.input
calls_from (suc most) time database password state =
    then_calls (call_outcome time database password state)
    (calls_from most time database password)

-- What the lines of a session on this database result in as single calls, that begin in this state.
abbrev pub session_by_calls : ℕ → SessionDatabase → Option (List ℕ) → CallState → CallsOutcome
session_by_calls time database password state =
    calls_from session_line_limit time database password state
