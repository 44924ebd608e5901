-- What one line of a session does, as it is seen.
use Rattle.std.specs.Prelude.{◌≡◌, ◌≤◌, ◌<◌, ◌⊎◌, ℕ, List, [], ◌∷◌, codes, Option, None, Some}
use Rattle.outside_core.specs.Counts.{Increased}
use Rattle.outside_core.specs.Streams.{GainsPrefix}
use Rattle.cli_messages.specs.declared.answers.Refusal.{Refusal}
use Rattle.cli_messages.specs.declared.answers.Stop.{Stop}
use Rattle.cli_messages.specs.declared.answers.Stop.TheVariants.{Refused}
use Rattle.cli_messages.specs.declared.answers.Reason.TheVariants.{LineLimit}
use Rattle.cli_messages.specs.Messages.{refusal_of, status_of}
use Rattle.session_core.specs.CliFiles.SeenOpened.{opened_seen}
use Rattle.cli_reporting.specs.Reporting.{Gains, IsReported, ReportsUnwritten, input_fault_line, memory_line, output_line}
use Rattle.cli_writing.specs.Writing.{IsSame, KeepsFiles, NewFile}
use Rattle.session_core.specs.CallRun.Endings.{Stores}
use Rattle.session_core.specs.Running.{IsAt}
use Rattle.session_core.specs.Sessions.{LineOutcome, SessionState, continues, ended, ends, refusal_line}
use Rattle.session_core.specs.declared.running.Session.{Session}
use Rattle.session_run.specs.Seen.{HasCauses, IsBroken, IsFault, IsLastLine, NoneFell, SessionFaults, SessionSeen}

-- A text was printed; or it was not, and the session ends with the status that says why.
abbrev pub PrintsLine : List ℕ → Option ℕ → (written written' errors errors' : Option (List ℕ))
    → (faults faults' : ℕ) → Type 0
PrintsLine text None written written' errors errors' faults faults' =
    Gains written written' text × (errors' ≡ errors)
PrintsLine text (Some result) written written' errors errors' faults faults' =
    ((result ≡ 9) ⊎ ((result ≡ 10) × Increased faults faults'))
    × GainsPrefix written written' text × ReportsUnwritten result errors errors' faults faults'

-- A refusal of status 1 or 2 was reported.
pub record ReportsRefusal (stop : Stop) (errors errors' : Option (List ℕ)) : Type 0 where
  pub refusal : Refusal
  pub is : stop ≡ Refused refusal
  pub low : status_of refusal.reason ≤ 2
  pub line : Gains errors errors' (refusal_line refusal)

-- A stop was reported: the session goes on after a refusal of status 1 or 2, and otherwise ends with
-- this status.
abbrev pub ReportsStop : Stop → Option ℕ → (errors errors' : Option (List ℕ)) → (faults faults' : ℕ)
    → Type 0
ReportsStop stop None errors errors' faults faults' = ReportsRefusal stop errors errors'
ReportsStop stop (Some result) errors errors' faults faults' =
    (2 < result) × IsReported stop result errors errors' faults faults'

-- A line did what is defined, and the session goes on.
pub record LineContinues (defined : LineOutcome) (session : Session) (before now : SessionSeen)
    : Type 0 where
  pub text : List ℕ
  pub errors : List ℕ
  pub file : Option NewFile
  pub state : SessionState
  pub is : defined ≡ continues text errors file state
  pub written : Gains before.written now.written text
  pub reported : Gains before.errors now.errors errors
  pub store : Stores file before.store now.store
  pub at : IsAt state session now.left now.stream
  pub opened : opened_seen session.opened ≡ state.opened

-- A line ended its session as is defined.
pub record LineEnds (defined : LineOutcome) (result : ℕ) (before now : SessionSeen) : Type 0 where
  pub errors : List ℕ
  pub state : SessionState
  pub is : defined ≡ ends (ended result errors state)
  pub written : now.written ≡ before.written
  pub reported : Gains before.errors now.errors errors
  pub store : IsSame before.store now.store
  pub left : now.left ≡ Some state.input
  pub stream : now.stream ≡ Some state.dice

-- A line stopped at a fault, which was reported.
pub record LineFails (file : List ℕ) (faults faults' : SessionFaults) (result : ℕ)
    (before now : SessionSeen) : Type 0 where
  pub line : List ℕ
  pub fault : IsFault file faults faults' result line
  pub written : now.written ≡ before.written
  pub reported : Gains before.errors now.errors line
  pub store : KeepsFiles before.store now.store

-- Memory ran out, or standard error failed, before a line printed anything.
pub record LineBreaks (file : List ℕ) (faults faults' : SessionFaults) (defined : LineOutcome)
    (result : ℕ) (before now : SessionSeen) : Type 0 where
  pub line : List ℕ
  pub broken : IsBroken faults faults' result
  pub last : IsLastLine file faults faults' defined line
  pub written : now.written ≡ before.written
  pub reported : GainsPrefix before.errors now.errors line
  pub store : KeepsFiles before.store now.store

-- Memory ran out, or standard output failed, while a line printed its text, after it wrote its file.
pub record LineIsCut (faults faults' : SessionFaults) (defined : LineOutcome) (result : ℕ)
    (before now : SessionSeen) : Type 0 where
  pub text : List ℕ
  pub file : Option NewFile
  pub state : SessionState
  pub line : List ℕ
  pub is : defined ≡ continues text [] file state
  pub broken : IsBroken faults faults' result
  pub last : (line ≡ memory_line) ⊎ (Increased faults.out faults'.out × (line ≡ output_line))
  pub written : GainsPrefix before.written now.written text
  pub reported : GainsPrefix before.errors now.errors line
  pub store : Stores file before.store now.store

-- What a line of a session did: the session goes on, or it ends with this status.
abbrev pub DoesLine : List ℕ → (faults faults' : SessionFaults) → Option ℕ → LineOutcome → Session
    → (before now : SessionSeen) → Type 0
DoesLine file faults faults' None defined session before now =
    LineContinues defined session before now
DoesLine file faults faults' (Some result) defined session before now =
    LineEnds defined result before now
    ⊎ (LineFails file faults faults' result before now
    ⊎ (LineBreaks file faults faults' defined result before now
    ⊎ LineIsCut faults faults' defined result before now))

-- A line that does not end its session lets no count of faults fall; and a status that ends it has its
-- cause.
abbrev pub CausesLine : Option ℕ → (faults faults' : SessionFaults) → Type 0
CausesLine None faults faults' = NoneFell faults faults'
CausesLine (Some result) faults faults' = HasCauses result faults faults'

-- ---- the limit of lines

-- What a session prints on standard error after the last command line that it may have: nothing where
-- its input is at its end.
abbrev pub limit_errors : List ℕ → List ℕ
limit_errors [] = []
limit_errors (b ∷ rest) = refusal_line (refusal_of LineLimit (codes "input"))

-- A session ended at its last line as is defined.
abbrev pub EndsAtLimit : List ℕ → ℕ → Option (List ℕ) → (errors errors' : Option (List ℕ)) → Type 0
EndsAtLimit [] result left errors errors' = (result ≡ 0) × (left ≡ Some []) × (errors' ≡ errors)
EndsAtLimit (b ∷ rest) result left errors errors' = (result ≡ 8) × (left ≡ Some rest)
    × Gains errors errors' (limit_errors (b ∷ rest))

-- The end of its input was not found, or not reported.
abbrev pub FailsAtLimit : List ℕ → ℕ → (input input' : ℕ) → (errors errors' : Option (List ℕ))
    → (err err' : ℕ) → Type 0
FailsAtLimit left result input input' errors errors' err err' =
    ((result ≡ 11) × Increased input input' × Gains errors errors' input_fault_line)
    ⊎ (((result ≡ 9) ⊎ ((result ≡ 10) × Increased err err')) × ((line : List ℕ)
    × (((line ≡ limit_errors left) ⊎ ((line ≡ memory_line)
    ⊎ (Increased input input' × (line ≡ input_fault_line))))
    × GainsPrefix errors errors' line)))
