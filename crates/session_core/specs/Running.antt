-- What a line of a session did, as the code has it.
use Rattle.std.specs.Prelude.{◌≡◌, ◌≤◌, ◌⊎◌, ℕ, List, [], Option, None, Some, Result, Ok, Err}
use Rattle.outside_core.specs.Counts.{Increased}
use Rattle.cli_messages.specs.declared.answers.Reason.TheVariants.{NoSuchFile}
use Rattle.cli_messages.specs.declared.answers.Refusal.{Refusal}
use Rattle.cli_messages.specs.declared.answers.Stop.{Stop}
use Rattle.cli_messages.specs.declared.answers.Stop.TheVariants.{Refused, FileFault, InputFault, NoMemory}
use Rattle.cli_messages.specs.Messages.{status_of}
use Rattle.call_run.specs.CliFiles.SeenOpened.{opened_seen}
use Rattle.cli_writing.specs.Writing.{IsSame, NewFile, Store}
use Rattle.call_run.specs.CliCommands.SeenChange.{output_text}
use Rattle.call_run.specs.Endings.{Stores}
use Rattle.session_core.specs.Sessions.{LineOutcome, SessionState, continues, ended, ends, refused_line}
use Rattle.session_core.specs.declared.running.LineEnd.{LineEnd}
use Rattle.session_core.specs.declared.running.LineEnd.TheVariants.{Ends, Nothing, Printed}
use Rattle.session_core.specs.declared.running.Session.{Session}

-- Where a session is over this input and these dice.
abbrev pub state_seen : Session → (input dice : List ℕ) → SessionState
state_seen session input dice = record {
  opened = opened_seen session.opened;
  number = session.number;
  input = input;
  dice = dice;
}

-- A session is in this state, by its number and by what is left of the input and of the dice.
pub record IsAt (state : SessionState) (session : Session) (left stream : Option (List ℕ)) : Type 0
  where
    pub number : session.number ≡ state.number
    pub input : left ≡ Some state.input
    pub dice : stream ≡ Some state.dice

-- A line ended a session in this state, or did nothing, and changed no file.
pub record DoesNothing (outcome : SessionState → LineOutcome) (defined : LineOutcome)
    (before now : Store) (session : Session) (left stream : Option (List ℕ)) : Type 0 where
  pub state : SessionState
  pub is : defined ≡ outcome state
  pub same : IsSame before now
  pub at : IsAt state session left stream
  pub opened : opened_seen session.opened ≡ state.opened

-- A line printed this, and wrote its file, if it writes one.
pub record DoesPrint (text : List ℕ) (defined : LineOutcome) (before now : Store)
    (session : Session) (left stream : Option (List ℕ)) : Type 0 where
  pub file : Option NewFile
  pub state : SessionState
  pub is : defined ≡ continues text [] file state
  pub stores : Stores file before now
  pub at : IsAt state session left stream
  pub opened : opened_seen session.opened ≡ state.opened

-- A line was refused and changed no file. After status 1 or 2 the database is known.
pub record IsRefusedLine (refusal : Refusal) (defined : LineOutcome) (before now : Store)
    (session : Session) (left stream : Option (List ℕ)) : Type 0 where
  pub state : SessionState
  pub is : defined ≡ refused_line refusal state
  pub same : IsSame before now
  pub at : IsAt state session left stream
  pub opened : status_of refusal.reason ≤ 2 → opened_seen session.opened ≡ state.opened

-- A line did what is defined, or stopped.
abbrev pub Runs : Result LineEnd Stop → LineOutcome → (before now : Store) → Session
    → (left stream : Option (List ℕ)) → Type 0
Runs (Ok Ends) defined = DoesNothing (λ state. ends (ended 0 [] state)) defined
Runs (Ok Nothing) defined = DoesNothing (λ state. continues [] [] None state) defined
Runs (Ok (Printed output)) defined = DoesPrint (output_text output) defined
Runs (Err (Refused refusal)) defined = IsRefusedLine refusal defined
Runs (Err (FileFault name)) defined = λ before now session left stream. Unit {0}
Runs (Err InputFault) defined = λ before now session left stream. Unit {0}
Runs (Err NoMemory) defined = λ before now session left stream. Unit {0}

-- A stop of a line: at the session's file, which is written, at the input or at the dice, each of
-- which failed only where its count of faults rose. No line reads a file.
abbrev pub IsLineStop : List ℕ → (faults faults' input input' dice dice' : ℕ) → Stop → Type 0
IsLineStop file faults faults' input input' dice dice' (Refused refusal) =
    ¬ (refusal.reason ≡ NoSuchFile)
IsLineStop file faults faults' input input' dice dice' (FileFault given) = (given ≡ file)
    × Increased faults faults'
IsLineStop file faults faults' input input' dice dice' InputFault =
    Increased input input' ⊎ Increased dice dice'
IsLineStop file faults faults' input input' dice dice' NoMemory = Unit {0}
