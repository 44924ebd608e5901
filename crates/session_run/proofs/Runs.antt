-- A session after some of its lines, and after one line more.
use Rattle.std.proofs.Common.{◌≡◌, ◌≤◌, ◌+◌, ◌-◌, ℕ, zero, suc, List, [], ◌∷◌, ◌++◌, Option, Some, None, refl, sym, ◌∙◌, ap, subst, inl, inr, arith, append-nil}
use Rattle.std.specs.Prelude.{◌⊎◌, IfSome, option_map}
use Rattle.std.specs.FinMap.{insert}
use Rattle.outside_core.specs.Files.{FileMap}
use Rattle.outside_core.specs.Streams.{GainsPrefix}
use Rattle.session_core.specs.CliFiles.SeenOpened.{opened_seen}
use Rattle.cli_reporting.specs.Reporting.{Gains, input_fault_line}
use Rattle.cli_writing.specs.Writing.{IsSame, KeepsFiles, NewFile, Store}
use Rattle.session_core.specs.CallRun.Endings.{Stores}
use Rattle.cli_sessions.specs.declared.opening.SessionDatabase.{SessionDatabase}
use Rattle.session_core.specs.ReadsBack.{IfContinues, LineReadsBack, LinesReadBack}
use Rattle.session_core.specs.Running.{IsAt, state_seen}
use Rattle.session_core.specs.Sessions.{LineOutcome, SessionOutcome, SessionState, after_limit, continues, ended, ends, last_file, line_outcome, session, session_from, then_rest}
use Rattle.session_core.specs.declared.running.Session.{Session}
use Rattle.session_core.proofs.FileNames.{line_file_name}
use Rattle.session_run.specs.Lines.{DoesLine, EndsAtLimit, FailsAtLimit, LineContinues, LineIsCut, limit_errors}
use Rattle.session_run.specs.Progress.{ComesAfter, Progress, after_lines, nothing_done}
use Rattle.session_run.specs.Seen.{HasFiles, IsAsOutcome, IsBroken, IsFault, IsLastLine, NoneFell, RunsSession, SessionFaults, SessionSeen, StopsAfterLines, StopsAtFault, StopsShort}
use Rattle.session_run.proofs.FirstLines.{after, reaches_next, session_after}
use Rattle.session_run.proofs.Together.{gains_both, gains_none, gains_prefix, gains_then, has_files, keeps_after, last_named, rose_since, stores_both}

-- What is known of a session after so many lines, none of which ended it.
pub record HasRun (time : ℕ) (database : SessionDatabase) (start : SessionState) (lines : ℕ) (running : Session) (before now : SessionSeen) : Type 0 where
  pub progress : Progress
  pub reaches : after_lines lines time database start ≡ Some progress
  pub text : Gains before.written now.written progress.text
  pub errors : Gains before.errors now.errors progress.errors
  pub store : Stores progress.file before.store now.store
  pub named : IfSome progress.file (λ f. f.name ≡ database.file)
  pub at : IsAt progress.state running now.left now.stream
  pub opened : opened_seen running.opened ≡ progress.state.opened
  -- What its lines wrote reads back, if what the lines after them write does.
  pub held : (m : FileMap) → before.store.files ≡ Some m → (most : ℕ) → LinesReadBack most time database progress.state
      → LinesReadBack (lines + most) time database start

-- Before the first line.
pub begins : (time : ℕ) (database : SessionDatabase) (running : Session) (i d : List ℕ) (now : SessionSeen) → now.left ≡ Some i → now.stream ≡ Some d
    → HasRun time database (state_seen running i d) zero running now now
begins time database running i d now left stream = record {
  progress = nothing_done (state_seen running i d);
  reaches = refl;
  text = gains_none now.written now.written refl;
  errors = gains_none now.errors now.errors refl;
  store = record { files = refl; draft_name = refl; draft_bytes = refl };
  named = tt;
  at = record { number = refl; input = left; dice = stream };
  opened = refl;
  held = λ m files most h.
      let same : most ≡ zero + most = omega arith in
      subst (λ (n : ℕ). LinesReadBack n time database (state_seen running i d)) same h;
}

-- ---- counts that rose

pub fell_both : (first mid last : SessionFaults) → NoneFell first mid → NoneFell mid last → NoneFell first last
fell_both first mid last a b = record {
  files = omega (arith, a.files, b.files);
  input = omega (arith, a.input, b.input);
  out = omega (arith, a.out, b.out);
  err = omega (arith, a.err, b.err);
  dice = omega (arith, a.dice, b.dice);
}

module _ (first before now : SessionFaults) (none : NoneFell first before) where
  pub fault_since : (file : List ℕ) (result : ℕ) (line : List ℕ) → IsFault file before now result line → IsFault file first now result line
  fault_since file result line h = elim h [
    | inl f ↦ inl (f.0, rose_since _ _ _ none.files f.1, f.2)
    | inr f ↦ inr (f.0, elim f.1 [ inl i ↦ inl (rose_since _ _ _ none.input i) | inr d ↦ inr (rose_since _ _ _ none.dice d) ], f.2)
  ]

  pub broken_since : (result : ℕ) → IsBroken before now result → IsBroken first now result
  broken_since result h = elim h [
    | inl memory ↦ inl memory
    | inr b ↦ inr (b.0, elim b.1 [ inl o ↦ inl (rose_since _ _ _ none.out o) | inr e ↦ inr (rose_since _ _ _ none.err e) ])
  ]

  pub last_since : (file : List ℕ) (next : LineOutcome) (line : List ℕ) → IsLastLine file before now next line → IsLastLine file first now next line
  last_since file next line h = elim h [
    | inl own ↦ inl own
    | inr rest ↦ elim rest [
      | inl fault ↦ inr (inl (fault.0, fault_since file fault.0 line fault.1))
      | inr rest ↦ elim rest [
        | inl memory ↦ inr (inr (inl memory))
        | inr out ↦ inr (inr (inr (rose_since _ _ _ none.out out.0, out.1)))
      ]
    ]
  ]

  stop_since : (file : List ℕ) (progress : Progress) (next : LineOutcome) (result : ℕ) (b b' n : SessionSeen) → b.written ≡ b'.written → b.errors ≡ b'.errors → b.store ≡ b'.store
      → StopsAtFault file before now progress result b n ⊎ StopsShort file before now next progress result b n
      → StopsAtFault file first now progress result b' n ⊎ StopsShort file first now next progress result b' n
  stop_since file progress next result b b' n w e s h = elim h [
    | inl f ↦ inl (record {
      line = f.line;
      fault = fault_since file result f.line f.fault;
      text = subst (λ (x : Option (List ℕ)). Gains x n.written progress.text) w f.text;
      errors = subst (λ (x : Option (List ℕ)). Gains x n.errors (progress.errors ++ f.line)) e f.errors;
      files = subst (λ (x : Store). HasFiles progress.file x n.store) s f.files;
    })
    | inr f ↦ inr (record {
      line = f.line;
      broken = broken_since result f.broken;
      last = last_since file next f.line f.last;
      text = subst (λ (x : Option (List ℕ)). GainsPrefix x n.written progress.text) w f.text;
      errors = subst (λ (x : Option (List ℕ)). GainsPrefix x n.errors (progress.errors ++ f.line)) e f.errors;
      files = subst (λ (x : Store). HasFiles progress.file x n.store) s f.files;
    })
  ]

  -- A session that stopped since a later moment stopped since an earlier one.
  pub stops_since : (time : ℕ) (database : SessionDatabase) (start : SessionState) (result : ℕ) (b b' n : SessionSeen) → b.written ≡ b'.written → b.errors ≡ b'.errors
      → b.store ≡ b'.store → StopsAfterLines time database start before now result b n → StopsAfterLines time database start first now result b' n
  stops_since time database start result b b' n w e s h = record {
    lines = h.lines;
    progress = h.progress;
    reaches = h.reaches;
    next = h.next;
    comes = h.comes;
    stops = stop_since database.file h.progress h.next result b b' n w e s h.stops;
  }

module _ (time : ℕ) (database : SessionDatabase) (start : SessionState) (lines : ℕ) (running : Session) (before mid : SessionSeen) (run : HasRun time database start lines running before mid) where
  -- Where the session is.
  pub state_is : state_seen running run.progress.state.input run.progress.state.dice ≡ run.progress.state
  state_is = λ i. record {
    opened = run.opened i;
    number = run.at.number i;
    input = run.progress.state.input;
    dice = run.progress.state.dice;
  }

  -- What the line before it is defined to do.
  abbrev next : LineOutcome
  next = line_outcome time database run.progress.state

  next_is : (defined : LineOutcome) → line_outcome time database (state_seen running run.progress.state.input run.progress.state.dice) ≡ defined → next ≡ defined
  next_is defined e = ap (line_outcome time database) (sym state_is) ∙ e

  -- The files are reported after the lines before it, as they were before them.
  still_reported : (m : FileMap) → before.store.files ≡ Some m → (m' : FileMap) × (mid.store.files ≡ Some m')
  still_reported m files = by run.progress.file (run.store)
    where
      by : (file : Option NewFile) → Stores file before.store mid.store → (m' : FileMap) × (mid.store.files ≡ Some m')
      by None s = (m, s.files ∙ files)
      by (Some file) s = (insert m file.name file.bytes, s.files ∙ ap (option_map (λ (x : FileMap). insert x file.name file.bytes)) files)

  -- What the line before it wrote reads back, if the files are reported.
  abbrev NextReadsBack : Type 0
  NextReadsBack = (m : FileMap) → mid.store.files ≡ Some m → LineReadsBack (opened_seen running.opened).sealing
      (line_outcome time database (state_seen running run.progress.state.input run.progress.state.dice))

  held_with : NextReadsBack → (m : FileMap) → before.store.files ≡ Some m → (state : SessionState) → IfContinues next (λ s. s ≡ state) → (most : ℕ)
      → LinesReadBack most time database state → LinesReadBack (suc lines + most) time database start
  held_with back m files state is most h =
      let reported = still_reported m files in
      let here : LineReadsBack run.progress.state.opened.sealing next =
      subst (λ (s : SessionState). LineReadsBack s.opened.sealing (line_outcome time database s)) state_is (back reported.0 reported.1) in
      let same : lines + suc most ≡ suc lines + most = omega arith in
      subst (λ (n : ℕ). LinesReadBack n time database start) same (run.held m files (suc most) (here, rest next is))
    where
      rest : (o : LineOutcome) → IfContinues o (λ s. s ≡ state) → IfContinues o (LinesReadBack most time database)
      rest (ends outcome) is = tt
      rest (continues text errors file s) is = subst (LinesReadBack most time database) (sym is) h

  -- The session ends at this line.
  held_to : (n : ℕ) → lines ≤ n → (outcome : SessionOutcome) → next ≡ ends outcome → (m : FileMap) → before.store.files ≡ Some m → LinesReadBack (suc n) time database start
  held_to n few outcome is m files =
      let last : LineReadsBack run.progress.state.opened.sealing next × IfContinues next (LinesReadBack (n - lines) time database) =
      subst (λ (o : LineOutcome). LineReadsBack run.progress.state.opened.sealing o × IfContinues o (LinesReadBack (n - lines) time database)) (sym is) (tt, tt) in
      let same : lines + suc (n - lines) ≡ suc n = omega (arith, few) in
      subst (λ (k : ℕ). LinesReadBack k time database start) same (run.held m files (suc (n - lines)) last)

  -- A line more did not end it.
  pub runs_on : NextReadsBack → (running' : Session) (now : SessionSeen)
      → LineContinues (line_outcome time database (state_seen running run.progress.state.input run.progress.state.dice)) running' mid now
      → HasRun time database start (suc lines) running' before now
  runs_on back running' now c =
      let is = next_is (continues c.text c.errors c.file c.state) c.is in
      let name : IfSome c.file (λ f. f.name ≡ database.file) = named c.file refl is in
      record {
        progress = record { text = run.progress.text ++ c.text; errors = run.progress.errors ++ c.errors; file = last_file run.progress.file c.file; state = c.state };
        reaches = reaches_next lines time database start run.progress c.text c.errors c.file c.state run.reaches is;
        text = gains_both before.written mid.written now.written run.progress.text c.text run.text c.written;
        errors = gains_both before.errors mid.errors now.errors run.progress.errors c.errors run.errors c.reported;
        store = stores_both run.progress.file c.file database.file before.store mid.store now.store run.named name run.store c.store;
        named = last_named run.progress.file c.file database.file run.named name;
        at = c.at;
        opened = c.opened;
        held = λ m files. held_with back m files c.state (subst (λ (o : LineOutcome). IfContinues o (λ s. s ≡ c.state)) (sym is) refl);
      }
    where
      named : (file : Option NewFile) → c.file ≡ file → next ≡ continues c.text c.errors c.file c.state → IfSome file (λ f. f.name ≡ database.file)
      named None e is = tt
      named (Some file) e is = line_file_name time database run.progress.state c.text c.errors file c.state (is ∙ ap (λ f. continues c.text c.errors f c.state) e)

  pub runs_there : (here : SessionDatabase) → here ≡ database
      → ((m : FileMap) → mid.store.files ≡ Some m → LineReadsBack (opened_seen running.opened).sealing
      (line_outcome time here (state_seen running run.progress.state.input run.progress.state.dice)))
      → (running' : Session) (now : SessionSeen)
      → LineContinues (line_outcome time here (state_seen running run.progress.state.input run.progress.state.dice)) running' mid now
      → HasRun time database start (lines + 1) running' before now
  runs_there here e back running' now c =
      let same : suc lines ≡ lines + 1 = omega arith in
      subst (λ (n : ℕ). HasRun time database start n running' before now) same
      (runs_on
      (subst (λ (d : SessionDatabase). (m : FileMap) → mid.store.files ≡ Some m → LineReadsBack (opened_seen running.opened).sealing
      (line_outcome time d (state_seen running run.progress.state.input run.progress.state.dice))) e back)
      running' now (subst (λ (d : SessionDatabase). LineContinues (line_outcome time d (state_seen running run.progress.state.input run.progress.state.dice)) running' mid now) e c))

  -- What is seen where the session ended as an outcome says that changes no file.
  as_ended : (result : ℕ) (errors : List ℕ) (state : SessionState) (now : SessionSeen)
      → now.written ≡ mid.written → Gains mid.errors now.errors errors → IsSame mid.store now.store → now.left ≡ Some state.input → now.stream ≡ Some state.dice
      → IsAsOutcome (after run.progress (ended result errors state)) result before now
  as_ended result errors state now written reported store left stream = record {
    status = refl;
    text = gains_both before.written mid.written now.written run.progress.text [] run.text (gains_none mid.written now.written written);
    errors = gains_both before.errors mid.errors now.errors run.progress.errors errors run.errors reported;
    store = stores_both run.progress.file None database.file before.store mid.store now.store run.named tt run.store store;
    left = left;
    stream = stream;
  }

  module _ (faults mids nows : SessionFaults) (none : NoneFell faults mids) (now : SessionSeen) (result : ℕ) where
    -- A session that stopped.
    stops : (comes : LineOutcome) → ComesAfter lines time database run.progress.state comes
        → StopsAtFault database.file faults nows run.progress result before now ⊎ StopsShort database.file faults nows comes run.progress result before now
        → RunsSession time database start faults nows result before now
    stops comes c h = inr (record { lines = lines; progress = run.progress; reaches = run.reaches; next = comes; comes = c; stops = h })

    -- A line more ended it.
    pub ends_here : lines ≤ 65535
        → DoesLine database.file mids nows (Some result) (line_outcome time database (state_seen running run.progress.state.input run.progress.state.dice)) running mid now
        → RunsSession time database start faults nows result before now
    ends_here few h = elim h [
      | inl e ↦ inl (record {
        outcome = subst (λ (o : SessionOutcome). IsAsOutcome o result before now)
            (sym (more (ended result e.errors e.state) (next_is (ends (ended result e.errors e.state)) e.is)))
            (as_ended result e.errors e.state now e.written e.reported e.store e.left e.stream);
        reads_back = held_to 65535 (omega (arith, few)) (ended result e.errors e.state) (next_is (ends (ended result e.errors e.state)) e.is);
      })
      | inr h ↦ elim h [
        | inl f ↦ stops next (inl refl) (inl (record {
          line = f.line;
          fault = fault_since faults mids nows none database.file result f.line f.fault;
          text = subst (λ (w : Option (List ℕ)). Gains before.written w run.progress.text) (sym f.written) run.text;
          errors = gains_both before.errors mid.errors now.errors run.progress.errors f.line run.errors f.reported;
          files = keeps_after run.progress.file before.store mid.store now.store run.store f.store;
        }))
        | inr h ↦ elim h [
          | inl b ↦ stops next (inl refl) (inr (record {
            line = b.line;
            broken = broken_since faults mids nows none result b.broken;
            last = last_since faults mids nows none database.file next b.line
                (subst (λ (o : LineOutcome). IsLastLine database.file mids nows o b.line) (sym (next_is _ refl)) b.last);
            text = subst (λ (w : Option (List ℕ)). GainsPrefix before.written w run.progress.text) (sym b.written)
                (gains_prefix before.written mid.written run.progress.text run.text);
            errors = gains_then before.errors mid.errors now.errors run.progress.errors b.line run.errors b.reported;
            files = keeps_after run.progress.file before.store mid.store now.store run.store b.store;
          }))
          | inr c ↦ cut c
        ]
      ]
    ]
      where
        more : (outcome : SessionOutcome) → next ≡ ends outcome → session time database start ≡ after run.progress outcome
        more outcome is =
            rest 65535 (omega (arith, few)) ∙ ap (λ (o : LineOutcome). after run.progress (then_rest o (session_from (65535 - lines) time database))) is
          where
            rest : (n : ℕ) → lines ≤ n → session_from (suc n) time database start
                ≡ after run.progress (then_rest next (session_from (n - lines) time database))
            rest n h =
                let same : suc n ≡ lines + suc (n - lines) = omega (arith, h) in
                ap (λ (k : ℕ). session_from k time database start) same
                ∙ session_after lines (suc (n - lines)) time database start run.progress run.reaches

        cut : LineIsCut mids nows (line_outcome time database (state_seen running run.progress.state.input run.progress.state.dice)) result mid now
            → RunsSession time database start faults nows result before now
        cut c =
            let is = next_is (continues c.text [] c.file c.state) c.is in
            let name : IfSome c.file (λ f. f.name ≡ database.file) = named c.file refl is in
            let progress : Progress = record { text = run.progress.text ++ c.text; errors = run.progress.errors ++ []; file = last_file run.progress.file c.file; state = c.state } in
            inr (record {
              lines = suc lines;
              progress = progress;
              reaches = reaches_next lines time database start run.progress c.text [] c.file c.state run.reaches is;
              next = line_outcome time database c.state;
              comes = inl refl;
              stops = inr (record {
                line = c.line;
                broken = broken_since faults mids nows none result c.broken;
                last = elim c.last [
                  | inl memory ↦ inr (inr (inl memory))
                  | inr out ↦ inr (inr (inr (rose_since _ _ _ none.out out.0, out.1)))
                ];
                text = gains_then before.written mid.written now.written run.progress.text c.text run.text c.written;
                errors = subst (λ (e : List ℕ). GainsPrefix before.errors now.errors (e ++ c.line)) (sym (append-nil run.progress.errors))
                    (gains_then before.errors mid.errors now.errors run.progress.errors c.line run.errors c.reported);
                files = has_files progress.file before.store now.store
                    (stores_both run.progress.file c.file database.file before.store mid.store now.store run.named name run.store c.store);
              });
            })
          where
            named : (file : Option NewFile) → c.file ≡ file → next ≡ continues c.text [] c.file c.state → IfSome file (λ f. f.name ≡ database.file)
            named None e is = tt
            named (Some file) e is = line_file_name time database run.progress.state c.text [] file c.state (is ∙ ap (λ f. continues c.text [] f c.state) e)

    -- The same, where the database of the session is said in another way.
    pub ends_there : (here : SessionDatabase) → here ≡ database → lines ≤ 65535
        → DoesLine here.file mids nows (Some result) (line_outcome time here (state_seen running run.progress.state.input run.progress.state.dice)) running mid now
        → RunsSession time database start faults nows result before now
    ends_there here e few h =
        ends_here few (subst (λ (d : SessionDatabase). DoesLine d.file mids nows (Some result)
        (line_outcome time d (state_seen running run.progress.state.input run.progress.state.dice)) running mid now) e h)

    -- ---- the limit of lines

    limit_is : (input : List ℕ) → (after_limit run.progress.state input).errors ≡ limit_errors input
    limit_is [] = refl
    limit_is (b ∷ rest) = refl

    -- After the last line that a session may have its input ended, or not.
    pub ends_at_limit : lines ≡ 65536 → now.written ≡ mid.written → IsSame mid.store now.store → now.stream ≡ mid.stream
        → EndsAtLimit run.progress.state.input result now.left mid.errors now.errors
        ⊎ FailsAtLimit run.progress.state.input result mids.input nows.input mid.errors now.errors mids.err nows.err
        → RunsSession time database start faults nows result before now
    ends_at_limit all written store stream h = elim h [
      | inl e ↦ inl (record {
        outcome = subst (λ (o : SessionOutcome). IsAsOutcome o result before now) (sym whole) (ended_so run.progress.state.input refl e);
        reads_back = λ m files.
            let same : lines + zero ≡ 65536 = omega (arith, all) in
            subst (λ (n : ℕ). LinesReadBack n time database start) same (run.held m files zero tt);
      })
      | inr f ↦ stops (ends (after_limit run.progress.state run.progress.state.input)) (inr (all, refl)) (fails f)
    ]
      where
        whole : session time database start ≡ after run.progress (after_limit run.progress.state run.progress.state.input)
        whole =
            let same : 65536 ≡ lines + zero = omega (arith, all) in
            ap (λ (n : ℕ). session_from n time database start) same
            ∙ session_after lines zero time database start run.progress run.reaches

        ended_so : (input : List ℕ) → run.progress.state.input ≡ input → EndsAtLimit input result now.left mid.errors now.errors
            → IsAsOutcome (after run.progress (after_limit run.progress.state input)) result before now
        ended_so [] is e =
            subst (λ (r : ℕ). IsAsOutcome (after run.progress (ended 0 [] run.progress.state)) r before now) (sym e.0)
            (as_ended 0 [] run.progress.state now written (gains_none mid.errors now.errors e.2) store (e.1 ∙ ap Some (sym is)) (stream ∙ run.at.dice))
        ended_so (b ∷ rest) is e =
            subst (λ (r : ℕ). IsAsOutcome (after run.progress (after_limit run.progress.state (b ∷ rest))) r before now) (sym e.0)
            (as_ended 8 (limit_errors (b ∷ rest)) (record run.progress.state { input = rest }) now written e.2 store e.1 (stream ∙ run.at.dice))

        text_same : Gains before.written now.written run.progress.text
        text_same = subst (λ (w : Option (List ℕ)). Gains before.written w run.progress.text) (sym written) run.text

        files_same : KeepsFiles mid.store now.store
        files_same = record { files = store.files; draft = inr (store.draft_name, store.draft_bytes) }

        fails : FailsAtLimit run.progress.state.input result mids.input nows.input mid.errors now.errors mids.err nows.err
            → StopsAtFault database.file faults nows run.progress result before now
            ⊎ StopsShort database.file faults nows (ends (after_limit run.progress.state run.progress.state.input)) run.progress result before now
        fails f = elim f [
          | inl fault ↦ inl (record {
            line = input_fault_line;
            fault = inr (fault.0, inl (rose_since _ _ _ none.input fault.1), refl);
            text = text_same;
            errors = gains_both before.errors mid.errors now.errors run.progress.errors input_fault_line run.errors fault.2;
            files = keeps_after run.progress.file before.store mid.store now.store run.store files_same;
          })
          | inr short ↦ inr (record {
            line = short.1.0;
            broken = elim short.0 [ inl memory ↦ inl memory | inr err ↦ inr (err.0, inr (rose_since _ _ _ none.err err.1)) ];
            last = elim short.1.1.0 [
              | inl own ↦ inl (own ∙ sym (limit_is run.progress.state.input))
              | inr rest ↦ elim rest [
                | inl memory ↦ inr (inr (inl memory))
                | inr input ↦ inr (inl (11, inr (refl, inl (rose_since _ _ _ none.input input.0), input.1)))
              ]
            ];
            text = gains_prefix before.written now.written run.progress.text text_same;
            errors = gains_then before.errors mid.errors now.errors run.progress.errors short.1.0 run.errors short.1.1.1;
            files = keeps_after run.progress.file before.store mid.store now.store run.store files_same;
          })
        ]
