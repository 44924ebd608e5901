-- What the program promises of a call whose words open a session.
use Rattle.std.specs.Prelude.{◌≡◌, ◌≢◌, ◌≤◌, ◌⊎◌, ℕ, List, Contains, Some, Result, Ok, Err}
use Rattle.outside_core.specs.Counts.{Increased}
use Rattle.outside_core.specs.Streams.{GainsPrefix, LosesPrefix}
use Rattle.cli_messages.specs.declared.answers.Refusal.{Refusal}
use Rattle.cli_messages.specs.Phases.{StreamAnswer}
use Rattle.cli_needs.specs.Needs.{files_of}
use Rattle.cli_files.specs.Files.{Opened}
use Rattle.cli_writing.specs.Writing.{IsSame, KeepsDraft}
use Rattle.cli_reporting.specs.Reporting.{file_fault_line, input_fault_line, memory_line}
use Rattle.cli_sessions.specs.declared.opening.SessionDatabase.{SessionDatabase}
use Rattle.session_run.specs.SessionCore.ReadsBack.{SessionReadsBack}
use Rattle.session_run.specs.SessionCore.Sessions.{SessionOutcome, SessionState, session}
use Rattle.session_opening.specs.Opening.{HoldsSession, first_number, opening_needs, session_opened}
use Rattle.session_run.specs.Seen.{SessionFaults, SessionSeen, StopsAfterLines, session_faults}
use Rattle.keepass_call.specs.Outcome.{AreTruthful, Counts, IsAsSaid, NoFaults, Outcome, Seen, World, ended}

-- ---- what is defined

-- Where a session begins whose database was opened and left this of the input.
abbrev pub session_start : SessionDatabase → World → Opened → List ℕ → SessionState
session_start database world opened left = record {
  opened = opened;
  number = first_number database;
  input = left;
  dice = world.dice;
}

-- What the lines of a session result in, as a call does.
abbrev pub outcome_of : SessionOutcome → Outcome
outcome_of outcome = record {
  status = outcome.status;
  text = outcome.text;
  line = outcome.errors;
  file = outcome.file;
  left = outcome.left;
  dice = outcome.dice;
}

-- What a session results in whose database was opened, or refused, and left this of the input.
abbrev pub session_after : SessionDatabase → ℕ → World → Result Opened Refusal → List ℕ → Outcome
session_after database time world (Ok opened) left =
    outcome_of (session time database (session_start database world opened left))
session_after database time world (Err refusal) left = ended left (Err refusal) world.dice

-- What opening gives over a world.
abbrev pub opening_over : SessionDatabase → World → StreamAnswer Opened
opening_over database world = session_opened database world.input world.files

-- What a session over this database results in at a moment over a world: its password and the
-- opening come first, and then its lines. A refused opening ends it.
abbrev pub session_outcome : SessionDatabase → ℕ → World → Outcome
session_outcome database time world = session_after database time world
    (opening_over database world).answer (opening_over database world).left

-- ---- what is seen

-- The outside reports this world before a session, and after it every answer was that of this world.
pub record IsSessionWorld (before now : Seen) (world : World) : Type 0 where
  pub truthful : AreTruthful now.truth
  pub files : before.store.files ≡ Some world.files
  pub input : before.left ≡ Some world.input
  pub dice : before.stream ≡ Some world.dice

-- What is seen of a session.
abbrev pub session_view : Seen → SessionSeen
session_view seen = record {
  written = seen.written;
  errors = seen.errors;
  store = seen.store;
  left = seen.left;
  stream = seen.stream;
}

-- The counts of its faults.
abbrev pub faults_in : Counts → SessionFaults
faults_in counts =
    session_faults counts.files counts.input counts.out counts.err counts.dice

-- The line of a session that was not opened, where it is not the outcome's: of a fault of the store
-- at a file that it opens, of a fault of the input, or of memory.
abbrev pub IsOpeningLine : SessionDatabase → Counts → Counts → List ℕ → Type 0
IsOpeningLine database counts counts' line =
    (Increased counts.files counts'.files × ((name : List ℕ)
    × Contains (files_of (opening_needs database)) name × (line ≡ file_fault_line name)))
    ⊎ ((Increased counts.input counts'.input × (line ≡ input_fault_line))
    ⊎ (line ≡ memory_line))

-- A session was not opened: nothing was printed, and no file changed. Standard error has a prefix of
-- one line: of the outcome's, or of that of a fault or of memory.
pub record IsUnopened (database : SessionDatabase) (said : Outcome) (result : ℕ)
    (before now : Seen) (counts counts' : Counts) : Type 0 where
  pub line : List ℕ
  pub status : (result ≡ 7) ⊎ ((result ≡ 9) ⊎ ((result ≡ 10) ⊎ (result ≡ 11)))
  pub written : now.written ≡ before.written
  pub store : IsSame before.store now.store
  pub errors : GainsPrefix before.errors now.errors line
  pub is_line : (line ≡ said.line) ⊎ IsOpeningLine database counts counts' line
  pub failed : ¬ ((result ≢ 9) × NoFaults counts counts')

-- A session was opened, and stopped after some of its lines.
pub record StopsWithin (database : SessionDatabase) (time : ℕ) (world : World) (result : ℕ)
    (before now : Seen) (counts counts' : Counts) : Type 0 where
  pub opened : Opened
  pub left : List ℕ
  pub opens : opening_over database world ≡ record { answer = Ok opened; left = left }
  pub stops : StopsAfterLines time database (session_start database world opened left)
      (faults_in counts) (faults_in counts') result (session_view before) (session_view now)

-- Where a session over this database was opened, each file that its lines write holds the document
-- that the line left.
abbrev pub LinesHold : SessionDatabase → ℕ → World → Type 0
LinesHold database time world = (opened : Opened) → (left : List ℕ)
    → opening_over database world ≡ record { answer = Ok opened; left = left }
    → SessionReadsBack time database (session_start database world opened left)

-- ---- what is promised

-- A call whose words open a session over this database at a moment, its status, what is seen before
-- and after it, and the counts before and after. What holds *always* presumes nothing of the outside;
-- the other parts hold for each world that the outside reports and answered like.
pub record IsSession (database : SessionDatabase) (time result : ℕ) (before now : Seen)
    (counts counts' : Counts) : Type 0 where
  -- Always: a status is at most 12, and 7, 10 and 11 have their causes.
  pub range : result ≤ 12
  pub store : result ≡ 7 → Increased counts.absences counts'.absences
      ⊎ Increased counts.files counts'.files
  pub output : result ≡ 10 → Increased counts.out counts'.out ⊎ Increased counts.err counts'.err
  pub input : result ≡ 11 → Increased counts.input counts'.input
      ⊎ Increased counts.dice counts'.dice
  -- Always: the draft is the one of before, or there is none, and of the dice a prefix is gone.
  pub draft : KeepsDraft before.store now.store
  pub stream : LosesPrefix before.stream now.stream
  -- Where the status is 0, or nothing failed and memory did not run out, all is as the outcome says.
  pub as_said : (world : World) → IsSessionWorld before now world → (result ≡ 0)
      ⊎ ((result ≢ 9) × NoFaults counts counts')
      → IsAsSaid (session_outcome database time world) result before now
  -- Whatever the status: all is as the outcome says; or the session was not opened, and changed no
  -- file; or it stopped after some of its lines, and the files are as these left them.
  pub stops : (world : World) → IsSessionWorld before now world
      → IsAsSaid (session_outcome database time world) result before now
      ⊎ (IsUnopened database (session_outcome database time world) result before now counts counts'
      ⊎ StopsWithin database time world result before now counts counts')
  -- Then each file that its lines wrote holds the document that the line left.
  pub reads_back : (world : World) → IsSessionWorld before now world → (result ≡ 0)
      ⊎ ((result ≢ 9) × NoFaults counts counts') → LinesHold database time world
  -- At status 0 the files held the database that the session opened, speaking of all their bytes.
  pub authentic : (world : World) → IsSessionWorld before now world → result ≡ 0
      → (opened : Opened) × HoldsSession database world.input world.files opened
