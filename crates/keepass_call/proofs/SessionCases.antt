-- What is promised of a call whose words open a session, by how it ended.
use Rattle.std.proofs.Common.{◌≡◌, ◌≢◌, ◌≤◌, ℕ, List, Option, Some, Result, Ok, Err, refl, sym, ◌∙◌, ap, subst, inl, inr, arith}
use Rattle.std.specs.Prelude.{◌⊎◌, option_map}
use Rattle.outside_core.specs.Counts.{Increased}
use Rattle.outside_core.specs.Streams.{GainsPrefix, LosesPrefix}
use Rattle.cli_messages.specs.declared.answers.Refusal.{Refusal}
use Rattle.cli_messages.specs.declared.answers.Stop.{Stop}
use Rattle.cli_messages.specs.declared.answers.Stop.TheVariants.{Refused, FileFault, InputFault, NoMemory}
use Rattle.cli_messages.proofs.Statuses.{own, seven_missing}
use Rattle.cli_messages.specs.Messages.{error_line, reason_text, status_of}
use Rattle.cli_messages.specs.Phases.{IsEarlyStop, IsLeft, RefusesStream, StreamAnswer, with_left}
use Rattle.cli_needs.specs.Needs.{files_of}
use Rattle.cli_files.specs.Files.{Opened}
use Rattle.cli_writing.specs.Writing.{IsSame, KeepsDraft, Store}
use Rattle.cli_reporting.specs.Reporting.{Gains, IsReported, ReportsLine, file_fault_line, input_fault_line, memory_line}
use Rattle.cli_sessions.specs.declared.opening.SessionDatabase.{SessionDatabase}
use Rattle.session_run.specs.SessionCore.ReadsBack.{SessionReadsBack}
use Rattle.session_run.specs.SessionCore.Sessions.{SessionOutcome, session}
use Rattle.session_opening.specs.Opening.{first_number, opening_needs}
use Rattle.session_opening.proofs.Opened.{holds_opened}
use Rattle.session_run.specs.Seen.{HasCauses, IsAsOutcome, NoneFell, RunsSession, SessionFaults, SessionSeen, StopsAfterLines}
use Rattle.session_run.proofs.Runs.{stops_since}
use Rattle.session_run.proofs.Together.{gains_none, gains_prefix, rose_since}
use Rattle.keepass_call.specs.Outcome.{Counts, IsAsSaid, NoFaults, Outcome, Seen, World, ended}
use Rattle.keepass_call.specs.SessionCalls.{IsOpeningLine, IsSession, IsSessionWorld, IsUnopened, LinesHold, StopsWithin, faults_in, opening_over, outcome_of, session_after, session_outcome, session_start, session_view}
use Rattle.cli_reporting.proofs.Ranges.{status_range}
use Rattle.session_run.proofs.CliCommands.Changes.{loses_none}
use Rattle.session_run.specs.CallRun.Endings.{Stores}

-- The number of the first line, as it was computed.
pub with_number : (time : ℕ) (database : SessionDatabase) (opened : Opened) (number : ℕ) (left dice : List ℕ) (faults faults' : SessionFaults) (result : ℕ) (before now : SessionSeen)
    → number ≡ first_number database → RunsSession time database (record { opened = opened; number = number; input = left; dice = dice }) faults faults' result before now
    → RunsSession time database (record { opened = opened; number = first_number database; input = left; dice = dice }) faults faults' result before now
with_number time database opened number left dice faults faults' result before now is h =
    subst (λ (n : ℕ). RunsSession time database (record { opened = opened; number = n; input = left; dice = dice }) faults faults' result before now) is h

module _ (database : SessionDatabase) (time : ℕ) where
  opened_outcome : (w : World) (opened : Opened) (left : List ℕ) → opening_over database w ≡ record { answer = Ok opened; left = left }
      → session_outcome database time w ≡ outcome_of (session time database (session_start database w opened left))
  opened_outcome w opened left e = ap (λ (a : StreamAnswer Opened). session_after database time w a.answer a.left) e

  refused_outcome : (w : World) (refusal : Refusal) (left : List ℕ) → opening_over database w ≡ record { answer = Err refusal; left = left }
      → session_outcome database time w ≡ ended left (Err refusal) w.dice
  refused_outcome w refusal left e = ap (λ (a : StreamAnswer Opened). session_after database time w a.answer a.left) e

  some_left : (before now : Option (List ℕ)) (i left : List ℕ) → before ≡ Some i → now ≡ Some left → IsLeft before now left
  some_left before now i left b n = n ∙ sym (ap (option_map (λ (l : List ℕ). left)) b)

  -- The opening gave this.
  answered : (a : StreamAnswer Opened) (answer : Result Opened Refusal) → a.answer ≡ answer → a ≡ record { answer = answer; left = a.left }
  answered a answer e = ap (λ (r : Result Opened Refusal). with_left r a.left) e

  -- What an opening that gave this says of the lines after it.
  HeldAfter : World → Result Opened Refusal → List ℕ → Type 0
  HeldAfter w (Ok opened) left = SessionReadsBack time database (session_start database w opened left)
  HeldAfter w (Err refusal) left = Unit {0}

  -- One opening gives one database.
  same_opening : (w : World) (opened : Opened) (left : List ℕ) → opening_over database w ≡ record { answer = Ok opened; left = left }
      → SessionReadsBack time database (session_start database w opened left) → LinesHold database time w
  unfolding HeldAfter
  same_opening w opened left o h opened' left' o' = subst (λ (a : StreamAnswer Opened). HeldAfter w a.answer a.left) (sym o ∙ o') h

  module _ (result : ℕ) (before now : Seen) (counts counts' : Counts) where
    -- A session that stopped within its lines did so where something failed.
    within_failed : (w : World) → StopsWithin database time w result before now counts counts' → (result ≡ 0) ⊎ ((result ≢ 9) × NoFaults counts counts') → ⊥
    within_failed w s when = elim s.stops.stops [
      | inl f ↦ elim f.fault [
        | inl store ↦ elim when [ inl zero ↦ omega (arith, store.0, zero) | inr calm ↦ calm.1.files store.1 ]
        | inr input ↦ elim when [
          | inl zero ↦ omega (arith, input.0, zero)
          | inr calm ↦ elim input.1 [ inl i ↦ calm.1.input i | inr d ↦ calm.1.dice d ]
        ]
      ]
      | inr b ↦ elim b.broken [
        | inl nine ↦ elim when [ inl zero ↦ omega (arith, nine, zero) | inr calm ↦ calm.0 nine ]
        | inr ten ↦ elim when [
          | inl zero ↦ omega (arith, ten.0, zero)
          | inr calm ↦ elim ten.1 [ inl o ↦ calm.1.out o | inr e ↦ calm.1.err e ]
        ]
      ]
    ]

    unopened_failed : (said : Outcome) → IsUnopened database said result before now counts counts' → (result ≡ 0) ⊎ ((result ≢ 9) × NoFaults counts counts') → ⊥
    unopened_failed said u when = elim when [
      | inl zero ↦ elim u.status [
        | inl is ↦ omega (arith, is, zero)
        | inr h ↦ elim h [ inl is ↦ omega (arith, is, zero) | inr h ↦ elim h [ inl is ↦ omega (arith, is, zero) | inr is ↦ omega (arith, is, zero) ] ]
      ]
      | inr calm ↦ u.failed calm
    ]

    -- How the session ended.
    abbrev Ended : World → Type 0
    Ended w = IsAsSaid (session_outcome database time w) result before now
        ⊎ (IsUnopened database (session_outcome database time w) result before now counts counts' ⊎ StopsWithin database time w result before now counts counts')

    as_said : (w : World) → Ended w → (result ≡ 0) ⊎ ((result ≢ 9) × NoFaults counts counts') → IsAsSaid (session_outcome database time w) result before now
    as_said w h when = elim h [
      | inl said ↦ said
      | inr h ↦ elim h [
        | inl u ↦ absurd (unopened_failed (session_outcome database time w) u when)
        | inr s ↦ absurd (within_failed w s when)
      ]
    ]

  -- ---- a session that was opened

  module _ (result : ℕ) (before now : Seen) (counts mids counts' : Counts) (opened : Opened) (mid : SessionSeen)
      (written : mid.written ≡ before.written) (errors : mid.errors ≡ before.errors) (store : mid.store ≡ before.store)
      (none : NoneFell (faults_in counts) (faults_in mids)) where
    abbrev outcome : World → List ℕ → SessionOutcome
    outcome w left = session time database (session_start database w opened left)

    as_defined : (w : World) → IsSessionWorld before now w → (left : List ℕ) → opening_over database w ≡ record { answer = Ok opened; left = left }
        → IsAsOutcome (outcome w left) result mid (session_view now) → IsAsSaid (session_outcome database time w) result before now
    as_defined w t left o said = subst (λ (x : Outcome). IsAsSaid x result before now) (sym (opened_outcome w opened left o)) (record {
      status = said.status;
      text = subst (λ (x : Option (List ℕ)). Gains x now.written (outcome w left).text) written said.text;
      line = subst (λ (x : Option (List ℕ)). Gains x now.errors (outcome w left).errors) errors said.errors;
      store = subst (λ (x : Store). Stores (outcome w left).file x now.store) store said.store;
      left = some_left before.left now.left w.input _ t.input said.left;
      stream = some_left before.stream now.stream w.dice _ t.dice said.stream;
    })

    stopped_within : (w : World) (left : List ℕ) → opening_over database w ≡ record { answer = Ok opened; left = left }
        → StopsAfterLines time database (session_start database w opened left) (faults_in mids) (faults_in counts') result mid (session_view now)
        → StopsWithin database time w result before now counts counts'
    stopped_within w left o s = record {
      opened = opened;
      left = left;
      opens = o;
      stops = stops_since (faults_in counts) (faults_in mids) (faults_in counts') none time database (session_start database w opened left) result mid (session_view before)
          (session_view now) written errors store s;
    }

    -- Its lines did what is defined.
    ran : (w : World) → IsSessionWorld before now w → (left : List ℕ) → opening_over database w ≡ record { answer = Ok opened; left = left }
        → RunsSession time database (session_start database w opened left) (faults_in mids) (faults_in counts') result mid (session_view now)
        → Ended result before now counts counts' w
    ran w t left o h = elim h [
      | inl e ↦ inl (as_defined w t left o e.outcome)
      | inr s ↦ inr (inr (stopped_within w left o s))
    ]

    -- What they wrote holds what they left, where nothing failed.
    held : (w : World) → IsSessionWorld before now w → (left : List ℕ) → opening_over database w ≡ record { answer = Ok opened; left = left }
        → RunsSession time database (session_start database w opened left) (faults_in mids) (faults_in counts') result mid (session_view now)
        → (result ≡ 0) ⊎ ((result ≢ 9) × NoFaults counts counts') → LinesHold database time w
    held w t left o h when = elim h [
      | inl e ↦ same_opening w opened left o (e.reads_back w.files (ap (λ (x : Store). x.files) store ∙ t.files))
      | inr s ↦ absurd (within_failed result before now counts counts' w (stopped_within w left o s) when)
    ]

    pub session_call : HasCauses result (faults_in mids) (faults_in counts') → KeepsDraft before.store now.store → LosesPrefix before.stream now.stream
        → ((w : World) → IsSessionWorld before now w → (opening_over database w).answer ≡ Ok opened
        × RunsSession time database (session_start database w opened (opening_over database w).left) (faults_in mids) (faults_in counts') result mid (session_view now))
        → IsSession database time result before now counts counts'
    session_call causes draft stream runs =
        let ends : (w : World) → IsSessionWorld before now w → Ended result before now counts counts' w =
        λ w t. ran w t (opening_over database w).left (answered (opening_over database w) (Ok opened) (runs w t).0) (runs w t).1 in
        record {
          range = causes.range;
          store = λ h. inr (rose_since counts.files mids.files counts'.files none.files (causes.store h));
          output = λ h. elim (causes.output h) [
            | inl o ↦ inl (rose_since counts.out mids.out counts'.out none.out o)
            | inr e ↦ inr (rose_since counts.err mids.err counts'.err none.err e)
          ];
          input = λ h. elim (causes.input h) [
            | inl i ↦ inl (rose_since counts.input mids.input counts'.input none.input i)
            | inr d ↦ inr (rose_since counts.dice mids.dice counts'.dice none.dice d)
          ];
          draft = draft;
          stream = stream;
          as_said = λ w t. as_said result before now counts counts' w (ends w t);
          stops = ends;
          reads_back = λ w t. held w t (opening_over database w).left (answered (opening_over database w) (Ok opened) (runs w t).0) (runs w t).1;
          authentic = λ w t zero. (opened, holds_opened database w.input w.files opened (runs w t).0);
        }

  -- ---- a session that was not opened

  -- What is known of it.
  pub record Unopened (stop : Stop) (result : ℕ) (before now : Seen) (counts counts' : Counts) : Type 0 where
    pub gives : (w : World) → IsSessionWorld before now w → RefusesStream stop now.left (opening_over database w)
    pub caused : IsEarlyStop (files_of (opening_needs database)) counts.files counts'.files counts.absences counts'.absences counts.input counts'.input stop
    pub told : IsReported stop result before.errors now.errors counts.err counts'.err
    pub written : now.written ≡ before.written
    pub store : IsSame before.store now.store
    pub stream : now.stream ≡ before.stream

  module _ (result : ℕ) (before now : Seen) (counts counts' : Counts) where
    -- The status where a line was not written.
    abbrev Untold : Type 0
    Untold = (result ≡ 9) ⊎ ((result ≡ 10) × Increased counts.err counts'.err)

    untold_status : Untold → (result ≡ 7) ⊎ ((result ≡ 9) ⊎ ((result ≡ 10) ⊎ (result ≡ 11)))
    untold_status (inl nine) = inr (inl nine)
    untold_status (inr ten) = inr (inr (inl ten.0))

    untold_failed : Untold → ¬ ((result ≢ 9) × NoFaults counts counts')
    untold_failed (inl nine) calm = calm.0 nine
    untold_failed (inr ten) calm = calm.1.err ten.1

    -- Of a line a prefix was written.
    front : (own : ℕ) (line : List ℕ) → ReportsLine own line result before.errors now.errors counts.err counts'.err → GainsPrefix before.errors now.errors line
    front own line (inl whole) = gains_prefix before.errors now.errors line whole.1
    front own line (inr part) = part.1

    -- A stop that is no refusal of the outcome.
    by_fault : (stop : Stop) (w : World) (own : ℕ) (line : List ℕ) → Unopened stop result before now counts counts'
        → ReportsLine own line result before.errors now.errors counts.err counts'.err → IsOpeningLine database counts counts' line
        → (result ≡ own → ((result ≡ 7) ⊎ ((result ≡ 9) ⊎ ((result ≡ 10) ⊎ (result ≡ 11)))) × ¬ ((result ≢ 9) × NoFaults counts counts'))
        → IsUnopened database (session_outcome database time w) result before now counts counts'
    by_fault stop w own line u h is so = record {
      line = line;
      status = elim h [ inl whole ↦ (so whole.0).0 | inr part ↦ untold_status part.0 ];
      written = u.written;
      store = u.store;
      errors = front own line h;
      is_line = inr is;
      failed = elim h [ inl whole ↦ (so whole.0).1 | inr part ↦ untold_failed part.0 ];
    }

    -- A refusal was told as the outcome says, or its line was not written.
    by_refusal : (refusal : Refusal) (w : World) → IsSessionWorld before now w → Unopened (Refused refusal) result before now counts counts'
        → Ended result before now counts counts' w
    by_refusal refusal w t u =
        let g = u.gives w t in
        let said = refused_outcome w refusal (opening_over database w).left (answered (opening_over database w) (Err refusal) g.0) in
        let line = error_line refusal.subject (reason_text refusal.reason) in
        elim u.told [
          | inl whole ↦ inl (subst (λ (o : Outcome). IsAsSaid o result before now) (sym said) (record {
            status = whole.0;
            text = gains_none before.written now.written u.written;
            line = whole.1;
            store = u.store;
            left = some_left before.left now.left w.input (opening_over database w).left t.input g.1;
            stream = some_left before.stream now.stream w.dice w.dice t.dice (u.stream ∙ t.dice);
          }))
          | inr part ↦ inr (inl (record {
            line = line;
            status = untold_status part.0;
            written = u.written;
            store = u.store;
            errors = part.1;
            is_line = inl (sym (ap (λ (o : Outcome). o.line) said));
            failed = untold_failed part.0;
          }))
        ]

    by_file : (name : List ℕ) → Unopened (FileFault name) result before now counts counts' → (w : World)
        → IsUnopened database (session_outcome database time w) result before now counts counts'
    by_file name u w =
        by_fault (FileFault name) w 7 (file_fault_line name) u u.told (inl (u.caused.0, (name, u.caused.1, refl)))
        (λ is. (inl is, λ calm. calm.1.files u.caused.0))

    by_input : Unopened InputFault result before now counts counts' → (w : World) → IsUnopened database (session_outcome database time w) result before now counts counts'
    by_input u w =
        by_fault InputFault w 11 input_fault_line u u.told (inr (inl (u.caused, refl))) (λ is. (inr (inr (inr is)), λ calm. calm.1.input u.caused))

    by_memory : Unopened NoMemory result before now counts counts' → (w : World) → IsUnopened database (session_outcome database time w) result before now counts counts'
    by_memory u w =
        by_fault NoMemory w 9 memory_line u u.told (inr (inr refl)) (λ is. (inr (inl is), λ calm. calm.0 is))

    unopened_ends : (stop : Stop) → Unopened stop result before now counts counts' → (w : World) → IsSessionWorld before now w → Ended result before now counts counts' w
    unopened_ends (Refused refusal) u w t = by_refusal refusal w t u
    unopened_ends (FileFault name) u w t = inr (inl (by_file name u w))
    unopened_ends InputFault u w t = inr (inl (by_input u w))
    unopened_ends NoMemory u w t = inr (inl (by_memory u w))

    -- No session was opened that could have written.
    unopened_holds : (stop : Stop) → Unopened stop result before now counts counts' → (w : World) → IsSessionWorld before now w
        → (result ≡ 0) ⊎ ((result ≢ 9) × NoFaults counts counts') → LinesHold database time w
    unopened_holds (Refused refusal) u w t when = λ opened left o. absurd (other opened (sym (u.gives w t).0 ∙ ap (λ (a : StreamAnswer Opened). a.answer) o))
      where
        other : (opened : Opened) → ◌≡◌ {A = Result Opened Refusal} (Err refusal) (Ok opened) → ⊥
        other opened e = cc e
    unopened_holds (FileFault name) u w t when = absurd (unopened_failed result before now counts counts' (session_outcome database time w) (by_file name u w) when)
    unopened_holds InputFault u w t when = absurd (unopened_failed result before now counts counts' (session_outcome database time w) (by_input u w) when)
    unopened_holds NoMemory u w t when = absurd (unopened_failed result before now counts counts' (session_outcome database time w) (by_memory u w) when)

    -- ---- causes

    within : (own : ℕ) (line : List ℕ) → own ≤ 12 → ReportsLine own line result before.errors now.errors counts.err counts'.err → result ≤ 12
    within own line small (inl whole) = omega (arith, whole.0, small)
    within own line small (inr part) = elim part.0 [ inl nine ↦ omega (arith, nine) | inr ten ↦ omega (arith, ten.0) ]

    range : (stop : Stop) → Unopened stop result before now counts counts' → result ≤ 12
    range (Refused refusal) u = within (status_of refusal.reason) _ (status_range refusal.reason) u.told
    range (FileFault name) u = within 7 (file_fault_line name) (omega arith) u.told
    range InputFault u = within 11 input_fault_line (omega arith) u.told
    range NoMemory u = within 9 memory_line (omega arith) u.told

    none_of : (n : ℕ) → n ≢ 9 → n ≢ 10 → Untold → result ≡ n → ⊥
    none_of n nine ten (inl is) h = nine (sym h ∙ is)
    none_of n nine ten (inr is) h = ten (sym h ∙ is.0)

    store_cause : (stop : Stop) → Unopened stop result before now counts counts' → result ≡ 7 → Increased counts.absences counts'.absences ⊎ Increased counts.files counts'.files
    store_cause (Refused refusal) u h = elim u.told [
      | inl is ↦ inl (u.caused (seven_missing refusal.reason (sym is.0 ∙ h)))
      | inr part ↦ absurd (none_of 7 (λ e. omega (arith, e)) (λ e. omega (arith, e)) part.0 h)
    ]
    store_cause (FileFault name) u h = inr u.caused.0
    store_cause InputFault u h =
        absurd (elim u.told [ inl is ↦ omega (arith, is.0, h) | inr part ↦ none_of 7 (λ e. omega (arith, e)) (λ e. omega (arith, e)) part.0 h ])
    store_cause NoMemory u h =
        absurd (elim u.told [ inl is ↦ omega (arith, is.0, h) | inr part ↦ none_of 7 (λ e. omega (arith, e)) (λ e. omega (arith, e)) part.0 h ])

    err_rose : Untold → result ≡ 10 → Increased counts.out counts'.out ⊎ Increased counts.err counts'.err
    err_rose (inl nine) h = absurd (omega (arith, nine, h))
    err_rose (inr ten) h = inr ten.1

    output_cause : (stop : Stop) → Unopened stop result before now counts counts' → result ≡ 10 → Increased counts.out counts'.out ⊎ Increased counts.err counts'.err
    output_cause (Refused refusal) u h = elim u.told [ inl is ↦ absurd ((own refusal.reason).ten (sym is.0 ∙ h)) | inr part ↦ err_rose part.0 h ]
    output_cause (FileFault name) u h = elim u.told [ inl is ↦ absurd (omega (arith, is.0, h)) | inr part ↦ err_rose part.0 h ]
    output_cause InputFault u h = elim u.told [ inl is ↦ absurd (omega (arith, is.0, h)) | inr part ↦ err_rose part.0 h ]
    output_cause NoMemory u h = elim u.told [ inl is ↦ absurd (omega (arith, is.0, h)) | inr part ↦ err_rose part.0 h ]

    input_cause : (stop : Stop) → Unopened stop result before now counts counts' → result ≡ 11 → Increased counts.input counts'.input ⊎ Increased counts.dice counts'.dice
    input_cause (Refused refusal) u h = absurd (elim u.told [
      | inl is ↦ (own refusal.reason).eleven (sym is.0 ∙ h)
      | inr part ↦ none_of 11 (λ e. omega (arith, e)) (λ e. omega (arith, e)) part.0 h
    ])
    input_cause (FileFault name) u h =
        absurd (elim u.told [ inl is ↦ omega (arith, is.0, h) | inr part ↦ none_of 11 (λ e. omega (arith, e)) (λ e. omega (arith, e)) part.0 h ])
    input_cause InputFault u h = inl u.caused
    input_cause NoMemory u h =
        absurd (elim u.told [ inl is ↦ omega (arith, is.0, h) | inr part ↦ none_of 11 (λ e. omega (arith, e)) (λ e. omega (arith, e)) part.0 h ])

    not_done : (stop : Stop) → Unopened stop result before now counts counts' → result ≡ 0 → ⊥
    not_done (Refused refusal) u h = elim u.told [
      | inl is ↦ (own refusal.reason).zero (sym is.0 ∙ h)
      | inr part ↦ none_of 0 (λ e. omega (arith, e)) (λ e. omega (arith, e)) part.0 h
    ]
    not_done (FileFault name) u h = elim u.told [ inl is ↦ omega (arith, is.0, h) | inr part ↦ none_of 0 (λ e. omega (arith, e)) (λ e. omega (arith, e)) part.0 h ]
    not_done InputFault u h = elim u.told [ inl is ↦ omega (arith, is.0, h) | inr part ↦ none_of 0 (λ e. omega (arith, e)) (λ e. omega (arith, e)) part.0 h ]
    not_done NoMemory u h = elim u.told [ inl is ↦ omega (arith, is.0, h) | inr part ↦ none_of 0 (λ e. omega (arith, e)) (λ e. omega (arith, e)) part.0 h ]

    -- A session that was not opened.
    pub unopened_call : (stop : Stop) → Unopened stop result before now counts counts' → IsSession database time result before now counts counts'
    unopened_call stop u = record {
      range = range stop u;
      store = store_cause stop u;
      output = output_cause stop u;
      input = input_cause stop u;
      draft = inr (u.store.draft_name, u.store.draft_bytes);
      stream = subst (LosesPrefix before.stream) (sym u.stream) (loses_none before.stream);
      as_said = λ w t. as_said result before now counts counts' w (unopened_ends stop u w t);
      stops = unopened_ends stop u;
      reads_back = unopened_holds stop u;
      authentic = λ w t zero. absurd (not_done stop u zero);
    }

  -- Memory ran out before anything was read.
  pub starved_session : (before : Seen) (counts : Counts) → IsSession database time 9 before before counts counts
  starved_session before counts = unopened_call 9 before before counts counts NoMemory (record {
    gives = λ w t. tt;
    caused = tt;
    told = inr (inl refl, (0, omega arith, gains_none before.errors before.errors refl));
    written = refl;
    store = record { files = refl; draft_name = refl; draft_bytes = refl };
    stream = refl;
  })
