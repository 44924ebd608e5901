-- What is seen of a line that was carried out, by how it ended.
use Rattle.std.proofs.Common.{◌≡◌, ◌≤◌, ◌<◌, ℕ, Bool, true, false, List, [], ◌∷◌, Option, Some, None, Ok, Err, refl, sym, ◌∙◌, ap, subst, inl, inr, arith}
use Rattle.std.specs.Prelude.{◌⊎◌, codes, if◌then◌else◌, nat_le}
use Rattle.std.proofs.lemmas.Bool.{le-leb}
use Rattle.std.proofs.lemmas.Bool.Decides.{leb_tells}
use Rattle.outside_core.specs.Counts.{Increased}
use Rattle.outside_core.specs.Streams.{GainsPrefix}
use Rattle.kdbx_frame.specs.declared.sealings.Sealing.{Sealing}
use Rattle.cli_messages.proofs.Statuses.{own, seven_missing}
use Rattle.cli_messages.specs.declared.answers.Refusal.{Refusal}
use Rattle.cli_messages.specs.declared.answers.Stop.{Stop}
use Rattle.cli_messages.specs.declared.answers.Stop.TheVariants.{Refused, FileFault, InputFault, NoMemory}
use Rattle.cli_messages.specs.declared.answers.Reason.TheVariants.{LineLimit}
use Rattle.cli_messages.specs.Messages.{Refuses, refusal_of, status_of}
use Rattle.cli_messages.specs.Phases.{IsStreamStop, RefusesStream}
use Rattle.session_core.specs.CliCommands.declared.output.Output.{Output}
use Rattle.session_core.specs.CliCommands.SeenChange.{output_text}
use Rattle.cli_lines.specs.Lines.{end_reached}
use Rattle.cli_reporting.specs.Reporting.{IsReported, ReportsLine, file_fault_line, input_fault_line, memory_line, output_line}
use Rattle.cli_reporting.proofs.Ranges.{status_range}
use Rattle.cli_writing.specs.Writing.{KeepsFiles, Store}
use Rattle.session_core.specs.ReadsBack.{LineReadsBack}
use Rattle.session_core.specs.Running.{DoesNothing, DoesPrint, IsLineStop, IsRefusedLine, Runs}
use Rattle.session_core.specs.Sessions.{LineOutcome, SessionState, continues, ended, ends, refusal_line, refused_line}
use Rattle.session_core.specs.declared.running.LineEnd.{LineEnd}
use Rattle.session_core.specs.declared.running.LineEnd.TheVariants.{Ends, Nothing, Printed}
use Rattle.session_core.specs.declared.running.Session.{Session}
use Rattle.session_run.specs.Lines.{DoesLine, EndsAtLimit, FailsAtLimit, LineContinues, PrintsLine, ReportsRefusal, ReportsStop, limit_errors}
use Rattle.session_run.specs.Seen.{HasCauses, IsBroken, SessionFaults, SessionSeen, errors_of}
use Rattle.session_run.proofs.Together.{gains_none, gains_prefix}

-- ---- reporting

low_status : (a b : ℕ) → a ≤ b → nat_le a b ≡ true
low_status a b h = le-leb a b h

high_status : (a b : ℕ) → b < a → nat_le a b ≡ false
high_status a b h = elim (leb_tells a b) [ inl low ↦ absurd (omega (arith, low.1, h)) | inr high ↦ high.0 ]

-- A stop that was reported with a status of 2 at most was refused with it.
pub reported_low : (stop : Stop) (result : ℕ) (errors errors' : Option (List ℕ)) (faults faults' : ℕ) → result ≤ 2
    → IsReported stop result errors errors' faults faults' → ReportsRefusal stop errors errors'
reported_low (Refused refusal) result errors errors' faults faults' low h = elim h [
  | inl is ↦ record { refusal = refusal; is = refl; low = omega (arith, is.0, low); line = is.1 }
  | inr part ↦ absurd (elim part.0 [ inl nine ↦ omega (arith, nine, low) | inr ten ↦ omega (arith, ten.0, low) ])
]
reported_low (FileFault name) result errors errors' faults faults' low h =
    absurd (elim h [ inl is ↦ omega (arith, is.0, low) | inr part ↦ elim part.0 [ inl nine ↦ omega (arith, nine, low) | inr ten ↦ omega (arith, ten.0, low) ] ])
reported_low InputFault result errors errors' faults faults' low h =
    absurd (elim h [ inl is ↦ omega (arith, is.0, low) | inr part ↦ elim part.0 [ inl nine ↦ omega (arith, nine, low) | inr ten ↦ omega (arith, ten.0, low) ] ])
reported_low NoMemory result errors errors' faults faults' low h =
    absurd (elim h [ inl is ↦ omega (arith, is.0, low) | inr part ↦ elim part.0 [ inl nine ↦ omega (arith, nine, low) | inr ten ↦ omega (arith, ten.0, low) ] ])

-- ---- causes

module _ (result : ℕ) (errors errors' : Option (List ℕ)) (faults faults' : SessionFaults) where
  -- A line that was not written.
  part_causes : (result ≡ 9) ⊎ ((result ≡ 10) × Increased faults.err faults'.err) → HasCauses result faults faults'
  part_causes (inl nine) = record {
    range = omega (arith, nine);
    store = λ h. absurd (omega (arith, nine, h));
    output = λ h. absurd (omega (arith, nine, h));
    input = λ h. absurd (omega (arith, nine, h));
  }
  part_causes (inr ten) = record {
    range = omega (arith, ten.0);
    store = λ h. absurd (omega (arith, ten.0, h));
    output = λ h. inr ten.1;
    input = λ h. absurd (omega (arith, ten.0, h));
  }

  -- A stop that was reported has its cause.
  pub report_causes : (file : List ℕ) (stop : Stop) → IsLineStop file faults.files faults'.files faults.input faults'.input faults.dice faults'.dice stop
      → IsReported stop result errors errors' faults.err faults'.err → HasCauses result faults faults'
  report_causes file (Refused refusal) c h = elim h [
    | inl is ↦ record {
      range = omega (arith, is.0, status_range refusal.reason);
      store = λ seven. absurd (c (seven_missing refusal.reason (sym is.0 ∙ seven)));
      output = λ ten. absurd ((own refusal.reason).ten (sym is.0 ∙ ten));
      input = λ eleven. absurd ((own refusal.reason).eleven (sym is.0 ∙ eleven));
    }
    | inr part ↦ part_causes part.0
  ]
  report_causes file (FileFault name) c h = elim h [
    | inl is ↦ record {
      range = omega (arith, is.0);
      store = λ seven. c.1;
      output = λ ten. absurd (omega (arith, is.0, ten));
      input = λ eleven. absurd (omega (arith, is.0, eleven));
    }
    | inr part ↦ part_causes part.0
  ]
  report_causes file InputFault c h = elim h [
    | inl is ↦ record {
      range = omega (arith, is.0);
      store = λ seven. absurd (omega (arith, is.0, seven));
      output = λ ten. absurd (omega (arith, is.0, ten));
      input = λ eleven. c;
    }
    | inr part ↦ part_causes part.0
  ]
  report_causes file NoMemory c h = elim h [
    | inl is ↦ part_causes (inl is.0)
    | inr part ↦ part_causes part.0
  ]

-- ---- a line that was refused or failed

refused_errors : (refusal : Refusal) (state : SessionState) → errors_of (refused_line refusal state) ≡ refusal_line refusal
refused_errors refusal state = by (nat_le (status_of refusal.reason) 2)
  where
    by : (low : Bool) → errors_of (if low then continues [] (refusal_line refusal) None state else ends (ended (status_of refusal.reason) (refusal_line refusal) state))
        ≡ refusal_line refusal
    by true = refl
    by false = refl

module _ (file : List ℕ) (faults faults' : SessionFaults) (defined : LineOutcome) (running : Session) (before now : SessionSeen) (written : now.written ≡ before.written) where
  -- The session goes on after a refusal.
  pub goes_on : (stop : Stop) → ReportsRefusal stop before.errors now.errors → Runs (Err stop) defined before.store now.store running now.left now.stream
      → LineContinues defined running before now
  goes_on stop h r =
      let line : IsRefusedLine h.refusal defined before.store now.store running now.left now.stream =
      subst (λ (s : Stop). Runs (Err s) defined before.store now.store running now.left now.stream) h.is r in
      record {
        text = [];
        errors = refusal_line h.refusal;
        file = None;
        state = line.state;
        is = line.is ∙ ap (λ (low : Bool). if low then continues [] (refusal_line h.refusal) None line.state
            else ends (ended (status_of h.refusal.reason) (refusal_line h.refusal) line.state)) (low_status _ 2 h.low);
        written = gains_none before.written now.written written;
        reported = h.line;
        store = line.same;
        at = line.at;
        opened = line.opened h.low;
      }

  broken_by : (result : ℕ) → (result ≡ 9) ⊎ ((result ≡ 10) × Increased faults.err faults'.err) → IsBroken faults faults' result
  broken_by result (inl nine) = inl nine
  broken_by result (inr ten) = inr (ten.0, inr ten.1)

  -- The session ends with a status above 2.
  pub ends_so : (stop : Stop) (result : ℕ) → 2 < result → IsReported stop result before.errors now.errors faults.err faults'.err
      → IsLineStop file faults.files faults'.files faults.input faults'.input faults.dice faults'.dice stop → KeepsFiles before.store now.store
      → Runs (Err stop) defined before.store now.store running now.left now.stream
      → DoesLine file faults faults' (Some result) defined running before now
  ends_so (Refused refusal) result high h c kept r = elim h [
    | inl is ↦ inl (record {
      errors = refusal_line refusal;
      state = r.state;
      is = r.is ∙ ap (λ (low : Bool). if low then continues [] (refusal_line refusal) None r.state
          else ends (ended (status_of refusal.reason) (refusal_line refusal) r.state)) (high_status _ 2 (subst (λ (n : ℕ). 2 < n) is.0 high))
          ∙ ap (λ (n : ℕ). ends (ended n (refusal_line refusal) r.state)) (sym is.0);
      written = written;
      reported = is.1;
      store = r.same;
      left = r.at.input;
      stream = r.at.dice;
    })
    | inr part ↦ inr (inr (inl (record {
      line = refusal_line refusal;
      broken = broken_by result part.0;
      last = inl (sym (refused_errors refusal r.state) ∙ ap errors_of (sym r.is));
      written = written;
      reported = part.1;
      store = kept;
    })))
  ]
  ends_so (FileFault name) result high h c kept r = elim h [
    | inl is ↦ inr (inl (record {
      line = file_fault_line name;
      fault = inl (is.0, c.1, ap file_fault_line c.0);
      written = written;
      reported = is.1;
      store = kept;
    }))
    | inr part ↦ inr (inr (inl (record {
      line = file_fault_line name;
      broken = broken_by result part.0;
      last = inr (inl (7, inl (refl, c.1, ap file_fault_line c.0)));
      written = written;
      reported = part.1;
      store = kept;
    })))
  ]
  ends_so InputFault result high h c kept r = elim h [
    | inl is ↦ inr (inl (record {
      line = input_fault_line;
      fault = inr (is.0, c, refl);
      written = written;
      reported = is.1;
      store = kept;
    }))
    | inr part ↦ inr (inr (inl (record {
      line = input_fault_line;
      broken = broken_by result part.0;
      last = inr (inl (11, inr (refl, c, refl)));
      written = written;
      reported = part.1;
      store = kept;
    })))
  ]
  ends_so NoMemory result high h c kept r = inr (inr (inl (record {
    line = memory_line;
    broken = elim h [ inl is ↦ inl is.0 | inr part ↦ broken_by result part.0 ];
    last = inr (inr (inl refl));
    written = written;
    reported = elim h [ inl is ↦ gains_prefix before.errors now.errors memory_line is.1 | inr part ↦ part.1 ];
    store = kept;
  })))

-- ---- a line that was carried out

-- It printed this.
pub prints_on : (text : List ℕ) (defined : LineOutcome) (running : Session) (before now : SessionSeen) (faults faults' : ℕ)
    → PrintsLine text None before.written now.written before.errors now.errors faults faults' → DoesPrint text defined before.store now.store running now.left now.stream
    → LineContinues defined running before now
prints_on text defined running before now faults faults' h d = record {
  text = text;
  errors = [];
  file = d.file;
  state = d.state;
  is = d.is;
  written = h.0;
  reported = gains_none before.errors now.errors h.1;
  store = d.stores;
  at = d.at;
  opened = d.opened;
}

-- It was not printed whole.
pub prints_short : (text : List ℕ) (result : ℕ) (file : List ℕ) (faults faults' : SessionFaults) (defined : LineOutcome) (running : Session) (before now : SessionSeen)
    → PrintsLine text (Some result) before.written now.written before.errors now.errors faults.out faults'.out
    → DoesPrint text defined before.store now.store running now.left now.stream → DoesLine file faults faults' (Some result) defined running before now
prints_short text result file faults faults' defined running before now h d = inr (inr (inr (record {
  text = text;
  file = d.file;
  state = d.state;
  line = line h.2;
  is = d.is;
  broken = elim h.0 [ inl nine ↦ inl nine | inr ten ↦ inr (ten.0, inl ten.1) ];
  last = last h.2;
  written = h.1;
  reported = reported h.2;
  store = d.stores;
})))
  where
    Unwritten : Type 0
    Unwritten = (now.errors ≡ before.errors) ⊎ ((result ≡ 10) × Increased faults.out faults'.out × GainsPrefix before.errors now.errors output_line)

    line : Unwritten → List ℕ
    line (inl same) = memory_line
    line (inr tried) = output_line

    last : (u : Unwritten) → (line u ≡ memory_line) ⊎ (Increased faults.out faults'.out × (line u ≡ output_line))
    last (inl same) = inl refl
    last (inr tried) = inr (tried.1, refl)

    reported : (u : Unwritten) → GainsPrefix before.errors now.errors (line u)
    reported (inl same) = (0, omega arith, gains_none before.errors now.errors same)
    reported (inr tried) = tried.2

-- ---- how a line ended

-- It ended its session.
pub ended_line : (end : LineEnd) (defined : LineOutcome) (file : List ℕ) (faults faults' : SessionFaults) (running : Session) (before now : SessionSeen)
    → now.written ≡ before.written → now.errors ≡ before.errors → end ≡ Ends → Runs (Ok end) defined before.store now.store running now.left now.stream
    → DoesLine file faults faults' (Some 0) defined running before now
ended_line end defined file faults faults' running before now written errors is r =
    let line : DoesNothing (λ state. ends (ended 0 [] state)) defined before.store now.store running now.left now.stream =
    subst (λ (e : LineEnd). Runs (Ok e) defined before.store now.store running now.left now.stream) is r in
    inl (record {
      errors = [];
      state = line.state;
      is = line.is;
      written = written;
      reported = gains_none before.errors now.errors errors;
      store = line.same;
      left = line.at.input;
      stream = line.at.dice;
    })

-- It was passed over.
pub passed_line : (end : LineEnd) (defined : LineOutcome) (running : Session) (before now : SessionSeen)
    → now.written ≡ before.written → now.errors ≡ before.errors → end ≡ Nothing → Runs (Ok end) defined before.store now.store running now.left now.stream
    → LineContinues defined running before now
passed_line end defined running before now written errors is r =
    let line : DoesNothing (λ state. continues [] [] None state) defined before.store now.store running now.left now.stream =
    subst (λ (e : LineEnd). Runs (Ok e) defined before.store now.store running now.left now.stream) is r in
    record {
      text = [];
      errors = [];
      file = None;
      state = line.state;
      is = line.is;
      written = gains_none before.written now.written written;
      reported = gains_none before.errors now.errors errors;
      store = line.same;
      at = line.at;
      opened = line.opened;
    }

-- It gave something to print.
pub printed_line : (end : LineEnd) (output : Output) (result : Option ℕ) (defined : LineOutcome) (file : List ℕ) (faults faults' : SessionFaults) (running : Session)
    (before now : SessionSeen) → PrintsLine (output_text output) result before.written now.written before.errors now.errors faults.out faults'.out
    → end ≡ Printed output → Runs (Ok end) defined before.store now.store running now.left now.stream
    → DoesLine file faults faults' result defined running before now
printed_line end output None defined file faults faults' running before now h is r =
    prints_on (output_text output) defined running before now faults.out faults'.out h
    (subst (λ (e : LineEnd). Runs (Ok e) defined before.store now.store running now.left now.stream) is r)
printed_line end output (Some result) defined file faults faults' running before now h is r =
    prints_short (output_text output) result file faults faults' defined running before now h
    (subst (λ (e : LineEnd). Runs (Ok e) defined before.store now.store running now.left now.stream) is r)

-- It stopped.
pub stopped_line : (stop : Stop) (result : Option ℕ) (defined : LineOutcome) (file : List ℕ) (faults faults' : SessionFaults) (running : Session) (before now : SessionSeen)
    → now.written ≡ before.written → ReportsStop stop result before.errors now.errors faults.err faults'.err
    → IsLineStop file faults.files faults'.files faults.input faults'.input faults.dice faults'.dice stop → KeepsFiles before.store now.store
    → Runs (Err stop) defined before.store now.store running now.left now.stream → DoesLine file faults faults' result defined running before now
stopped_line stop None defined file faults faults' running before now written h c kept r =
    goes_on file faults faults' defined running before now written stop h r
stopped_line stop (Some result) defined file faults faults' running before now written h c kept r =
    ends_so file faults faults' defined running before now written stop result h.0 h.1 c kept r

-- A line that was refused, after which the session goes on, wrote no file.
pub refused_reads_back : (sealing : Option Sealing) (stop : Stop) (result : Option ℕ) (defined : LineOutcome) (errors errors' : Option (List ℕ)) (faults faults' : ℕ)
    (running : Session) (before now : Store) (left stream : Option (List ℕ)) → result ≡ None → ReportsStop stop result errors errors' faults faults'
    → Runs (Err stop) defined before now running left stream → LineReadsBack sealing defined
refused_reads_back sealing stop None defined errors errors' faults faults' running before now left stream none h r =
    let line : IsRefusedLine h.refusal defined before now running left stream = subst (λ (s : Stop). Runs (Err s) defined before now running left stream) h.is r in
    let is : defined ≡ continues [] (refusal_line h.refusal) None line.state = line.is ∙ ap (λ (low : Bool). if low then continues [] (refusal_line h.refusal) None line.state
    else ends (ended (status_of h.refusal.reason) (refusal_line h.refusal) line.state)) (low_status _ 2 h.low) in
    subst (LineReadsBack sealing) (sym is) tt
refused_reads_back sealing stop (Some status) defined errors errors' faults faults' running before now left stream none h r = cc none

-- ---- the limit of lines

-- The input was at its end.
pub at_end : (i : List ℕ) (now : Option (List ℕ)) → (end_reached i).answer ≡ Ok true → now ≡ Some (end_reached i).left
    → (errors errors' : Option (List ℕ)) → errors' ≡ errors → EndsAtLimit i 0 now errors errors'
at_end [] now e l errors errors' same = (refl, l, same)
at_end (b ∷ rest) now e l errors errors' same = cc e

module _ (i : List ℕ) (result : ℕ) (input input' : ℕ) (errors errors' : Option (List ℕ)) (err err' : ℕ) (left : Option (List ℕ)) where
  -- A line was reported, or not.
  memory_at_limit : ReportsLine 9 memory_line result errors errors' err err' → FailsAtLimit i result input input' errors errors' err err'
  memory_at_limit h = elim h [
    | inl is ↦ inr (inl is.0, (memory_line, (inr (inl refl), gains_prefix errors errors' memory_line is.1)))
    | inr part ↦ inr (part.0, (memory_line, (inr (inl refl), part.1)))
  ]

  -- More input came.
  pub limit_passed : (stop : Stop) → (end_reached i).answer ≡ Ok false → left ≡ Some (end_reached i).left
      → Refuses stop (refusal_of LineLimit (codes "input")) → IsReported stop result errors errors' err err'
      → EndsAtLimit i result left errors errors' ⊎ FailsAtLimit i result input input' errors errors' err err'
  limit_passed stop e l r h = by i e l
    where
      refused : (b : ℕ) (rest : List ℕ) → left ≡ Some rest → (refusal : Refusal) → refusal ≡ refusal_of LineLimit (codes "input")
          → ReportsLine (status_of refusal.reason) (refusal_line refusal) result errors errors' err err'
          → EndsAtLimit (b ∷ rest) result left errors errors' ⊎ FailsAtLimit (b ∷ rest) result input input' errors errors' err err'
      refused b rest l refusal is h =
          let said = subst (λ (x : Refusal). ReportsLine (status_of x.reason) (refusal_line x) result errors errors' err err') is h in
          elim said [
            | inl own ↦ inl (own.0, l, own.1)
            | inr part ↦ inr (inr (part.0, (limit_errors (b ∷ rest), (inl refl, part.1))))
          ]

      stopped : (b : ℕ) (rest : List ℕ) → left ≡ Some rest → (stop : Stop) → Refuses stop (refusal_of LineLimit (codes "input")) → IsReported stop result errors errors' err err'
          → EndsAtLimit (b ∷ rest) result left errors errors' ⊎ FailsAtLimit (b ∷ rest) result input input' errors errors' err err'
      stopped b rest l (Refused refusal) r h = refused b rest l refusal r h
      stopped b rest l (FileFault name) r h = absurd r
      stopped b rest l InputFault r h = absurd r
      stopped b rest l NoMemory r h = inr (elim h [
        | inl is ↦ inr (inl is.0, (memory_line, (inr (inl refl), gains_prefix errors errors' memory_line is.1)))
        | inr part ↦ inr (part.0, (memory_line, (inr (inl refl), part.1)))
      ])

      by : (i : List ℕ) → (end_reached i).answer ≡ Ok false → left ≡ Some (end_reached i).left
          → EndsAtLimit i result left errors errors' ⊎ FailsAtLimit i result input input' errors errors' err err'
      by [] e l = cc e
      by (b ∷ rest) e l = stopped b rest l stop r h

  -- The input failed.
  pub limit_failed : (stop : Stop) → RefusesStream stop left (end_reached i) → IsStreamStop input input' stop → IsReported stop result errors errors' err err'
      → EndsAtLimit i result left errors errors' ⊎ FailsAtLimit i result input input' errors errors' err err'
  limit_failed (Refused refusal) r c h = absurd (never i r.0)
    where
      never : (i : List ℕ) → (end_reached i).answer ≡ Err refusal → ⊥
      never [] e = cc e
      never (b ∷ rest) e = cc e
  limit_failed (FileFault name) r c h = absurd c
  limit_failed InputFault r c h = inr (elim h [
    | inl is ↦ inl (is.0, c, is.1)
    | inr part ↦ inr (part.0, (input_fault_line, (inr (inr (c, refl)), part.1)))
  ])
  limit_failed NoMemory r c h = inr (memory_at_limit h)
