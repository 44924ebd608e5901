-- What is seen of a session from outside, and what it is to be.
use Rattle.std.specs.Prelude.{◌≡◌, ◌≤◌, ◌⊎◌, ◌++◌, ℕ, List, Option, None, Some, option_map}
use Rattle.std.specs.FinMap as map
use Rattle.outside_core.specs.Counts.{Increased}
use Rattle.outside_core.specs.Files.{FileMap}
use Rattle.outside_core.specs.Streams.{GainsPrefix}
use Rattle.cli_writing.specs.Writing.{KeepsDraft, NewFile, Store, store}
use Rattle.cli_reporting.specs.Reporting.{Gains, file_fault_line, input_fault_line, memory_line, output_line}
use Rattle.session_core.specs.CallRun.Endings.{Stores}
use Rattle.cli_sessions.specs.declared.opening.SessionDatabase.{SessionDatabase}
use Rattle.session_core.specs.ReadsBack.{SessionReadsBack}
use Rattle.session_core.specs.Sessions.{LineOutcome, SessionOutcome, SessionState, continues, ends, session}
use Rattle.session_run.specs.Progress.{ComesAfter, Progress, after_lines}

-- ---- what is reported

-- What the outside reports of a session at one moment: what was written to standard output and to
-- standard error, the store of files, and what is left of the input and of the dice.
pub record SessionSeen : Type 0 where
  pub written : Option (List ℕ)
  pub errors : Option (List ℕ)
  pub store : Store
  pub left : Option (List ℕ)
  pub stream : Option (List ℕ)

-- The same, part by part.
abbrev pub session_seen : (written errors : Option (List ℕ)) → Option FileMap → Option (List ℕ)
    → List ℕ → (left stream : Option (List ℕ)) → SessionSeen
session_seen written errors files draft_name draft_bytes left stream = record {
  written = written;
  errors = errors;
  store = store files draft_name draft_bytes;
  left = left;
  stream = stream;
}

-- The counts of faults at one moment.
pub record SessionFaults : Type 0 where
  pub files : ℕ
  pub input : ℕ
  pub out : ℕ
  pub err : ℕ
  pub dice : ℕ

-- The same, part by part.
abbrev pub session_faults : (files input out err dice : ℕ) → SessionFaults
session_faults files input out err dice =
    record { files = files; input = input; out = out; err = err; dice = dice }

-- ---- what is seen in the end

-- All is as this outcome says.
pub record IsAsOutcome (outcome : SessionOutcome) (result : ℕ) (before now : SessionSeen) : Type 0
  where
    pub status : result ≡ outcome.status
    pub text : Gains before.written now.written outcome.text
    pub errors : Gains before.errors now.errors outcome.errors
    pub store : Stores outcome.file before.store now.store
    pub left : now.left ≡ Some outcome.left
    pub stream : now.stream ≡ Some outcome.dice

-- The files with this one in them, if there is one.
abbrev pub files_with : Option NewFile → Option FileMap → Option FileMap
files_with None files = files
files_with (Some file) files = option_map (λ m. map.insert m file.name file.bytes) files

-- The files have this one in them, if there is one, and are as before otherwise. The draft is the one
-- of before, or there is none.
pub record HasFiles (file : Option NewFile) (before now : Store) : Type 0 where
  pub files : now.files ≡ files_with file before.files
  pub draft : KeepsDraft before now

-- The status and the line of a fault: of the store at the session's file, or of the input or the dice.
abbrev pub IsFault : List ℕ → (faults faults' : SessionFaults) → ℕ → List ℕ → Type 0
IsFault file faults faults' result line =
    ((result ≡ 7) × Increased faults.files faults'.files × (line ≡ file_fault_line file))
    ⊎ ((result ≡ 11) × (Increased faults.input faults'.input ⊎ Increased faults.dice faults'.dice)
    × (line ≡ input_fault_line))

-- The status where memory ran out or an output failed.
abbrev pub IsBroken : (faults faults' : SessionFaults) → ℕ → Type 0
IsBroken faults faults' result = (result ≡ 9)
    ⊎ ((result ≡ 10) × (Increased faults.out faults'.out ⊎ Increased faults.err faults'.err))

-- What a line prints on standard error.
abbrev pub errors_of : LineOutcome → List ℕ
errors_of (ends outcome) = outcome.errors
errors_of (continues text errors file state) = errors

-- The last line that may be on standard error where memory ran out or an output failed: that of the
-- next line's refusal, of a fault whose count rose, of memory, or of standard output.
abbrev pub IsLastLine : List ℕ → (faults faults' : SessionFaults) → LineOutcome → List ℕ → Type 0
IsLastLine file faults faults' next line = (line ≡ errors_of next)
    ⊎ (((result : ℕ) × IsFault file faults faults' result line)
    ⊎ ((line ≡ memory_line)
    ⊎ (Increased faults.out faults'.out × (line ≡ output_line))))

-- After some lines a session stopped at a fault: all is as they left it, and its line was written.
pub record StopsAtFault (file : List ℕ) (faults faults' : SessionFaults) (progress : Progress)
    (result : ℕ) (before now : SessionSeen) : Type 0 where
  pub line : List ℕ
  pub fault : IsFault file faults faults' result line
  pub text : Gains before.written now.written progress.text
  pub errors : Gains before.errors now.errors (progress.errors ++ line)
  pub files : HasFiles progress.file before.store now.store

-- After some lines memory ran out or an output failed: the files are as they left them, and what was
-- written is a prefix of what they print, and on standard error of one line more.
pub record StopsShort (file : List ℕ) (faults faults' : SessionFaults) (next : LineOutcome)
    (progress : Progress) (result : ℕ) (before now : SessionSeen) : Type 0 where
  pub line : List ℕ
  pub broken : IsBroken faults faults' result
  pub last : IsLastLine file faults faults' next line
  pub text : GainsPrefix before.written now.written progress.text
  pub errors : GainsPrefix before.errors now.errors (progress.errors ++ line)
  pub files : HasFiles progress.file before.store now.store

-- A session that stopped after some lines.
pub record StopsAfterLines (time : ℕ) (database : SessionDatabase) (start : SessionState)
    (faults faults' : SessionFaults) (result : ℕ) (before now : SessionSeen) : Type 0 where
  pub lines : ℕ
  pub progress : Progress
  pub reaches : after_lines lines time database start ≡ Some progress
  pub next : LineOutcome
  pub comes : ComesAfter lines time database progress.state next
  pub stops : StopsAtFault database.file faults faults' progress result before now
      ⊎ StopsShort database.file faults faults' next progress result before now

-- A session that begins in this state resulted in what is defined; and each file that its lines wrote
-- holds the document that the line left, if the outside reports the files.
pub record EndsAsDefined (time : ℕ) (database : SessionDatabase) (start : SessionState) (result : ℕ)
    (before now : SessionSeen) : Type 0 where
  pub outcome : IsAsOutcome (session time database start) result before now
  pub reads_back : (m : FileMap) → before.store.files ≡ Some m
      → SessionReadsBack time database start

-- It did, or it stopped after some lines.
abbrev pub RunsSession : ℕ → SessionDatabase → SessionState → (faults faults' : SessionFaults) → ℕ
    → (before now : SessionSeen) → Type 0
RunsSession time database start faults faults' result before now =
    EndsAsDefined time database start result before now
    ⊎ StopsAfterLines time database start faults faults' result before now

-- ---- what causes the status

-- The status with which a session ends has its cause: 7, 10 and 11 come only where a count of faults
-- rose, and none is above 12.
pub record HasCauses (result : ℕ) (faults faults' : SessionFaults) : Type 0 where
  pub range : result ≤ 12
  pub store : result ≡ 7 → Increased faults.files faults'.files
  pub output : result ≡ 10 → Increased faults.out faults'.out ⊎ Increased faults.err faults'.err
  pub input : result ≡ 11 → Increased faults.input faults'.input
      ⊎ Increased faults.dice faults'.dice

-- No count of faults fell.
pub record NoneFell (faults faults' : SessionFaults) : Type 0 where
  pub files : faults.files ≤ faults'.files
  pub input : faults.input ≤ faults'.input
  pub out : faults.out ≤ faults'.out
  pub err : faults.err ≤ faults'.err
  pub dice : faults.dice ≤ faults'.dice
