-- What is promised of a call, by how it ended.
use Rattle.std.proofs.Common.{◌≡◌, ◌≢◌, ◌≤◌, ℕ, List, [], length, refl, sym, ◌∙◌, ap, subst, inl, inr, false, Option, Some, None, arith, append-nil}
use Rattle.std.specs.Prelude.{◌⊎◌, ◌++◌, IsSome, Result, Ok, Err, option_map, codes}
use Rattle.std.proofs.Math.Seq.{take-length}
use Rattle.outside_core.specs.Counts.{Increased}
use Rattle.outside_core.specs.Streams.{GainsPrefix, LosesPrefix}
use Rattle.cli_messages.specs.declared.answers.Refusal.{Refusal}
use Rattle.cli_messages.specs.declared.answers.Stop.{Stop}
use Rattle.cli_messages.specs.declared.answers.Stop.TheVariants.{Refused, FileFault, InputFault, NoMemory}
use Rattle.cli_messages.proofs.Statuses.{own, seven_missing}
use Rattle.cli_messages.specs.Messages.{error_line, reason_text, status_of}
use Rattle.cli_messages.specs.Phases.{IsCaused, IsLeft, IsWordsStop, Leaves, StreamAnswer, TellsStream, with_left}
use Rattle.cli_needs.specs.Needs.{files_named}
use Rattle.cli_writing.specs.Writing.{IsSame, KeepsDraft, KeepsFiles, Store}
use Rattle.session_run.specs.CliCommands.declared.output.Output.{Output}
use Rattle.keepass_call.specs.Call.{IsCall}
use Rattle.session_run.proofs.CliCommands.Changes.{loses_none}
use Rattle.cli_lines.proofs.Inputs.{left_alone}
use Rattle.cli_needs.specs.declared.command.Command.{Command}
use Rattle.session_run.specs.CallRun.Endings.{Ending, Ends, EndsSo, ending_without}
use Rattle.keepass_call.specs.Held.{IsAuthentic, IsComplete, WritesTask}
use Rattle.cli_pages.specs.Pages.{page_of}
use Rattle.cli_reporting.specs.Reporting.{Gains, IsPrinted, IsReported, ReportsLine, memory_line}
use Rattle.keepass_call.specs.Outcome.{AsksCommand, Counts, ForEachWorld, IsAsSaid, IsCut, IsOfSomeFile, IsOfTask, IsRefused, IsSafe, IsUsage, IsWorldOf, KeepsFaults, NoFaults, Outcome, Seen, Truth, World, answer_of, draws_with, draws_words, ended, may_store_by, outcome, page_or_answer}
use Rattle.cli_standalone.specs.declared.standalone.Standalone.{Standalone}
use Rattle.cli_parse.specs.Words.{command_of}
use Rattle.cli_standalone.specs.Standalone.{standalone_of}
use Rattle.cli_files.specs.Tasks.{draws_by}
use Rattle.call_input.specs.Reading.{asked_by, left_behind, left_of}
use Rattle.keepass_call.specs.Telling.{PrintsPage, TellsOneLine}
use Rattle.keepass_call.proofs.Answered.{answer_is, same_store}
use Rattle.keepass_call.proofs.HeldTasks.{is_gained, is_task}
use Rattle.keepass_call.proofs.MergeCalls.{merges_agreed, merges_nothing}
use Rattle.keepass_call.proofs.Pages.{no_page}
use Rattle.cli_reporting.proofs.Ranges.{status_range}

-- ---- what is written

no_gain : (before : Option (List ℕ)) → before ≡ option_map (λ w. w ++ []) before
no_gain None = refl
no_gain (Some w) = ap Some (sym (append-nil w))

unwritten : (before now : Option (List ℕ)) → now ≡ before → Gains before now []
unwritten before now same = same ∙ no_gain before

pub no_front : (before now : Option (List ℕ)) (text : List ℕ) → now ≡ before → GainsPrefix before now text
no_front before now text same = (0, omega arith, unwritten before now same)

pub whole_front : (before now : Option (List ℕ)) (text : List ℕ) → Gains before now text → GainsPrefix before now text
whole_front before now text gains =
    (length text, omega arith, gains ∙ ap (λ (t : List ℕ). option_map (λ w. w ++ t) before) (sym (take-length text)))

-- ---- a call that printed

-- What is known of it.
pub record Printed (words : List (List ℕ)) (time : ℕ) (printed : List ℕ) (result : ℕ) (before now : Seen) (counts counts' : Counts) : Type 0 where
  pub gives : ForEachWorld words before now (λ w. EndsSo printed (answer_of words time w).answer before.store now.store
      × IsLeft before.stream now.stream (answer_of words time w).left)
  pub left : ForEachWorld words before now (λ w. IsLeft before.left now.left (left_of words w.input))
  pub wrote : IsPrinted printed result before.written now.written before.errors now.errors counts.out counts'.out
  pub faultless : result ≡ 0 → KeepsFaults counts counts'
  pub draft : KeepsDraft before.store now.store
  pub held : AsksCommand words → ForEachWorld words before now (λ w. IsOfTask words time w printed before.store now.store)
  pub unwritten : may_store_by (command_of words) ≡ false → IsSame before.store now.store
  pub undrawn : draws_words words ≡ false → now.stream ≡ before.stream
  pub stream : LosesPrefix before.stream now.stream
  pub some_file : AsksCommand words → IsOfSomeFile words time printed before.store now.store
  pub page : (text : List ℕ) → page_of words ≡ Some text → PrintsPage text result before now counts counts'

-- The outcome of words that end so.
outcome_is : (words : List (List ℕ)) (time : ℕ) (w : World) (e : Ending) → (answer_of words time w).answer ≡ Ok e
    → outcome words time w ≡ ended (left_of words w.input) (Ok e) (answer_of words time w).left
outcome_is words time w e h = ap (λ (r : Result Ending Refusal). ended (left_of words w.input) r (answer_of words time w).left) h

refusal_is : (words : List (List ℕ)) (time : ℕ) (w : World) (refusal : Refusal) → (answer_of words time w).answer ≡ Err refusal
    → outcome words time w ≡ ended (left_of words w.input) (Err refusal) (answer_of words time w).left
refusal_is words time w refusal h = ap (λ (r : Result Ending Refusal). ended (left_of words w.input) r (answer_of words time w).left) h

not_both : (read : Result Command Refusal) (refusal : Refusal) (command : Command) → read ≡ Err refusal → read ≡ Ok command → ⊥
not_both read refusal command wrong right = cc (sym wrong ∙ right)

module _ (words : List (List ℕ)) (time : ℕ) (printed : List ℕ) (result : ℕ) (before now : Seen) (counts counts' : Counts)
    (p : Printed words time printed result before now counts counts') where
  -- At status 0 nothing was written on standard error.
  errors_kept : result ≡ 0 → now.errors ≡ before.errors
  errors_kept zero = elim p.wrote.1 [ inl same ↦ same | inr failed ↦ absurd (omega (arith, failed.0, zero)) ]

  one_line : ForEachWorld words before now (λ w. TellsOneLine (files_named (command_of words)) (outcome words time w) before now counts counts')
  one_line w t =
      elim p.wrote.1 [
        | inl same ↦ inl (no_front before.errors now.errors (outcome words time w).line same)
        | inr failed ↦ inr (inr (inr (inr (failed.1, failed.2))))
      ]

  range : result ≤ 12
  range = elim p.wrote.0 [ inl whole ↦ omega (arith, whole.0) | inr part ↦ elim part.0 [ inl nine ↦ omega (arith, nine) | inr ten ↦ omega (arith, ten.0) ] ]

  done : (w : World) → IsWorldOf words before now w → result ≡ 0 → Gains before.written now.written printed → IsAsSaid (outcome words time w) result before now
  done w t zero gains =
      let g = p.gives w t in
      subst (λ (o : Outcome). IsAsSaid o result before now) (sym (outcome_is words time w g.0.ending g.0.is))
      (record {
        status = zero;
        text = subst (λ (x : List ℕ). Gains before.written now.written x) g.0.text gains;
        line = unwritten before.errors now.errors (errors_kept zero);
        store = g.0.store;
        left = p.left w t;
        stream = g.1;
      })

  as_said : ForEachWorld words before now (λ w. (result ≡ 0) ⊎ ((result ≢ 9) × NoFaults counts counts') → IsAsSaid (outcome words time w) result before now)
  as_said w t when =
      elim p.wrote.0 [
        | inl whole ↦ done w t whole.0 whole.1
        | inr part ↦ absurd (elim part.0 [
          | inl nine ↦ elim when [ inl zero ↦ omega (arith, nine, zero) | inr calm ↦ calm.0 nine ]
          | inr ten ↦ elim when [ inl zero ↦ omega (arith, ten.0, zero) | inr calm ↦ calm.1.out ten.1 ]
        ])
      ]

  never : result ≢ 0 → result ≢ 9 → result ≢ 10 → ⊥
  never some nine ten = elim p.wrote.0 [ inl whole ↦ some whole.0 | inr part ↦ elim part.0 [ inl is ↦ nine is | inr is ↦ ten is.0 ] ]

  cut : ForEachWorld words before now (λ w. (result ≡ 9) ⊎ (result ≡ 10) → IsCut (outcome words time w) before now)
  cut w t when =
      let g = p.gives w t in
      subst (λ (o : Outcome). IsCut o before now) (sym (outcome_is words time w g.0.ending g.0.is))
      (record {
        text = subst (λ (x : List ℕ). GainsPrefix before.written now.written x) g.0.text
            (elim p.wrote.0 [ inl whole ↦ whole_front before.written now.written printed whole.1 | inr part ↦ part.1 ]);
        store = inr g.0.store;
      })

  cut_writes : AsksCommand words → ForEachWorld words before now (λ w. (result ≡ 9) ⊎ (result ≡ 10) → KeepsFiles before.store now.store ⊎ WritesTask words time w before now)
  cut_writes none w t when =
      let h = p.held none w t in
      inr (record {
        task = h.task;
        is_task = is_task words time w h.task h.gives;
        change = h.of_dice.change;
        makes = h.of_dice.makes;
        reads_back = h.of_dice.reads_back;
      })

  gained : result ≡ 0 → Gains before.written now.written printed
  gained zero =
      elim p.wrote.0 [
        | inl whole ↦ whole.1
        | inr part ↦ absurd (elim part.0 [ inl nine ↦ omega (arith, nine, zero) | inr ten ↦ omega (arith, ten.0, zero) ])
      ]

  safe : IsSafe result before now counts counts'
  safe =
      record {
        store = λ h. absurd (never (λ x. omega (arith, x, h)) (λ x. omega (arith, x, h)) (λ x. omega (arith, x, h)));
        output = λ h. elim p.wrote.0 [
          | inl whole ↦ absurd (omega (arith, h, whole.0))
          | inr part ↦ elim part.0 [ inl nine ↦ absurd (omega (arith, h, nine)) | inr ten ↦ inl ten.1 ]
        ];
        input = λ h. absurd (never (λ x. omega (arith, x, h)) (λ x. omega (arith, x, h)) (λ x. omega (arith, x, h)));
        text = λ some nine ten. absurd (never some nine ten);
        files = λ some nine ten. absurd (never some nine ten);
        errors = errors_kept;
        draft = p.draft;
        stream = p.stream;
      }

  complete : ForEachWorld words before now (λ w. IsComplete words time w result counts counts')
  complete w t ending carried calm =
      elim p.wrote.0 [ inl whole ↦ inl whole.0 | inr part ↦ elim part.0 [ inl nine ↦ inr nine | inr ten ↦ absurd (calm.out ten.1) ] ]

  authentic : AsksCommand words → ForEachWorld words before now (λ w. result ≡ 0 → IsAuthentic words time w before now)
  authentic none w t zero =
      let g = p.gives w t in
      let h = p.held none w t in
      record {
        task = h.task;
        is_task = is_task words time w h.task h.gives;
        change = h.of_dice.change;
        makes = h.of_dice.makes;
        text = subst (λ (x : List ℕ). Gains before.written now.written x) h.of_dice.text (gained zero);
        reads_back = h.of_dice.reads_back;
        ending = g.0.ending;
        ends = ap (λ (a : StreamAnswer Ending). a.answer) (sym (answer_is words time w h.task h.gives)) ∙ g.0.is;
        file = g.0.store;
      }

  -- Words that are no command print nothing.
  usage : (refusal : Refusal) → command_of words ≡ Err refusal → AsksCommand words → IsUsage result before now
  usage refusal wrong none = absurd (not_both (command_of words) refusal _ wrong (p.some_file none).has_file.is_command)

  pub printed_call : IsCall words time result before now counts counts'
  printed_call = record {
    range = range;
    safe = safe;
    faultless = p.faultless;
    reads_only = p.unwritten;
    draws_nothing = p.undrawn;
    page = p.page;
    usage = usage;
    as_said = as_said;
    refused = λ w t some nine ten. absurd (never some nine ten);
    cut = cut;
    cut_writes = cut_writes;
    one_line = one_line;
    authentic = authentic;
    agreed_merge = λ w t. merges_agreed words time result before now counts counts' w t (λ some nine ten. absurd (never some nine ten)) (λ none. authentic none w t) (λ zero. as_said w t (inl zero));
    merge_again = λ w t. merges_nothing words time result before now counts counts' w t (λ some nine ten. absurd (never some nine ten)) (λ none. authentic none w t) (λ zero. as_said w t (inl zero));
    complete = complete;
    some_file = λ none zero. (printed, (p.some_file none, gained zero));
  }

-- ---- a call that printed a page

pub no_none : (page : List ℕ) (asked : Option (List ℕ)) → asked ≡ Some page → asked ≡ None → ⊥
no_none page asked e none = cc (sym e ∙ none)

some_is : (one other : List ℕ) → Some one ≡ Some other → one ≡ other
some_is one other e = cc e

-- Words that ask for a page take nothing from the input.
page_left : (words : List (List ℕ)) (page : List ℕ) (before : Option (List ℕ)) (input : List ℕ) → page_of words ≡ Some page
    → TellsStream (asked_by (command_of words)) before input → IsLeft before before (left_of words input)
page_left words page before input e t = by (command_of words) refl
  where
    by : (read : Result Command Refusal) → command_of words ≡ read → IsLeft before before (left_of words input)
    by (Ok command) is = absurd (no_none page (page_of words) e (no_page words command is))
    by (Err refusal) is =
        subst (λ (r : Result Command Refusal). IsLeft before before (left_behind r input)) (sym is) (left_alone (asked_by (command_of words)) before input t)

-- A call whose words ask for a page, of which all that is seen is what it printed.
pub page_call : (words : List (List ℕ)) (time : ℕ) (page : List ℕ) (result : ℕ) (before : Seen) (written errors : Option (List ℕ)) (counts counts' : Counts) → page_of words ≡ Some page
    → IsPrinted page result before.written written before.errors errors counts.out counts'.out → (result ≡ 0 → KeepsFaults counts counts')
    → IsCall words time result before (record before { written = written; errors = errors }) counts counts'
page_call words time page result before written errors counts counts' e wrote faultless =
    printed_call words time page result before (record before { written = written; errors = errors }) counts counts'
    (record {
      gives = λ w t.
          let is : answer_of words time w ≡ with_left (Ok (ending_without page)) w.dice = ap (λ (p : Option (List ℕ)). page_or_answer p words time w) e in
          subst (λ (a : StreamAnswer Ending). EndsSo page a.answer before.store before.store × IsLeft before.stream before.stream a.left) (sym is) (
            record {
              ending = ending_without page;
              is = refl;
              text = refl;
              store = record { files = refl; draft_name = refl; draft_bytes = refl };
            },
            left_alone (draws_words words) before.stream w.dice t.dice,
          );
      left = λ w t. page_left words page before.left w.input e t.input;
      wrote = wrote;
      faultless = faultless;
      draft = inr (refl, refl);
      held = λ none. absurd (no_none page (page_of words) e none.no_page);
      unwritten = λ r. record { files = refl; draft_name = refl; draft_bytes = refl };
      undrawn = λ r. refl;
      stream = loses_none before.stream;
      some_file = λ none. absurd (no_none page (page_of words) e none.no_page);
      page = λ text is. record {
        text = subst (λ (x : List ℕ). IsPrinted x result before.written written before.errors errors counts.out counts'.out) (some_is page text (sym e ∙ is)) wrote;
        untouched = refl;
      };
    })

-- The text of a page that is there.
some_text : (page : Option (List ℕ)) → IsSome page → (text : List ℕ) × (page ≡ Some text)
some_text None some = cc some
some_text (Some text) some = (text, refl)

-- A call whose words ask for a page, for which memory ran out before anything was printed.
pub starved_page : (words : List (List ℕ)) (time : ℕ) (before : Seen) (counts : Counts) → IsSome (page_of words)
    → IsCall words time 9 before (record before { written = before.written; errors = before.errors }) counts counts
starved_page words time before counts some =
    let page : (text : List ℕ) × (page_of words ≡ Some text) = some_text (page_of words) some in
    page_call words time page.0 9 before before.written before.errors counts counts page.1
    (inr (inl refl, no_front before.written before.written page.0 refl), inl refl) (λ zero. absurd (omega (arith, zero)))

-- ---- a call that stopped

-- What is known of it.
pub record Stopped (words : List (List ℕ)) (time : ℕ) (stop : Stop) (result : ℕ) (before now : Seen) (counts counts' : Counts) : Type 0 where
  pub gives : ForEachWorld words before now (λ w. Ends (Err stop) (answer_of words time w) before.store now.store before.stream now.stream)
  pub left : ForEachWorld words before now (λ w. Leaves {X = Output} (Err stop) before.left now.left (left_of words w.input))
  pub kept : KeepsFiles before.store now.store
  pub written : now.written ≡ before.written
  pub draft : KeepsDraft before.store now.store
  pub unwritten : may_store_by (command_of words) ≡ false → IsSame before.store now.store
  pub undrawn : draws_words words ≡ false → now.stream ≡ before.stream
  pub stream : LosesPrefix before.stream now.stream
  pub caused : IsCaused (files_named (command_of words)) counts.files counts'.files counts.absences counts'.absences counts.input counts'.input
      counts.dice counts'.dice stop
  pub told : IsReported stop result before.errors now.errors counts.err counts'.err
  pub no_page : page_of words ≡ None
  pub unread : (refusal : Refusal) → command_of words ≡ Err refusal → now.left ≡ before.left
  pub unasked : (refusal : Refusal) → command_of words ≡ Err refusal → standalone_of words ≡ None → now.truth ≡ before.truth
  pub wrong : (refusal : Refusal) → command_of words ≡ Err refusal → standalone_of words ≡ None → IsWordsStop stop

-- All but standard error is as before.
untouched : (before now : Seen) → now.written ≡ before.written → now.store ≡ before.store → now.left ≡ before.left → now.stream ≡ before.stream
    → now.truth ≡ before.truth → now ≡ record before { errors = now.errors }
untouched before now w s l d t =
    ap (λ (x : Option (List ℕ)). record { written = x; errors = now.errors; store = now.store; left = now.left; stream = now.stream; truth = now.truth }) w
    ∙ ap (λ (x : Store). record { written = before.written; errors = now.errors; store = x; left = now.left; stream = now.stream; truth = now.truth }) s
    ∙ ap (λ (x : Option (List ℕ)). record { written = before.written; errors = now.errors; store = before.store; left = x; stream = now.stream; truth = now.truth }) l
    ∙ ap (λ (x : Option (List ℕ)). record { written = before.written; errors = now.errors; store = before.store; left = before.left; stream = x; truth = now.truth }) d
    ∙ ap (λ (x : Truth). record { written = before.written; errors = now.errors; store = before.store; left = before.left; stream = before.stream; truth = x }) t

module _ (words : List (List ℕ)) (time result : ℕ) (before now : Seen) (counts counts' : Counts) where
  refused_so : (refusal : Refusal) → Stopped words time (Refused refusal) result before now counts counts' → (w : World) → IsWorldOf words before now w
      → result ≡ status_of refusal.reason → Gains before.errors now.errors (error_line refusal.subject (reason_text refusal.reason))
      → IsAsSaid (outcome words time w) result before now
  refused_so refusal s w t own line =
      let g = s.gives w t in
      subst (λ (o : Outcome). IsAsSaid o result before now) (sym (refusal_is words time w refusal g.0.is))
      (record {
        status = own;
        text = unwritten before.written now.written s.written;
        line = line;
        store = g.0.same;
        left = s.left w t;
        stream = g.1;
      })

  -- The line was not written.
  untold : (result ≡ 9) ⊎ ((result ≡ 10) × Increased counts.err counts'.err) → (result ≡ 0) ⊎ ((result ≢ 9) × NoFaults counts counts') → ⊥
  untold (inl nine) when = elim when [ inl zero ↦ omega (arith, nine, zero) | inr calm ↦ calm.0 nine ]
  untold (inr ten) when = elim when [ inl zero ↦ omega (arith, ten.0, zero) | inr calm ↦ calm.1.err ten.1 ]

  -- Memory ran out, and its line was written, or a prefix of it.
  starved : ReportsLine 9 memory_line result before.errors now.errors counts.err counts'.err → (result ≡ 9) ⊎ ((result ≡ 10) × Increased counts.err counts'.err)
  starved (inl own) = inl own.0
  starved (inr other) = other.0

  -- Of the line a prefix was written.
  fronted : (own : ℕ) (line : List ℕ) → ReportsLine own line result before.errors now.errors counts.err counts'.err → GainsPrefix before.errors now.errors line
  fronted own line (inl whole) = whole_front before.errors now.errors line whole.1
  fronted own line (inr part) = part.1

  stopped_line : (stop : Stop) → Stopped words time stop result before now counts counts'
      → ForEachWorld words before now (λ w. TellsOneLine (files_named (command_of words)) (outcome words time w) before now counts counts')
  stopped_line (Refused refusal) s w t =
      inl (subst (λ (o : Outcome). GainsPrefix before.errors now.errors o.line) (sym (refusal_is words time w refusal (s.gives w t).0.is))
      (fronted (status_of refusal.reason) (error_line refusal.subject (reason_text refusal.reason)) s.told))
  stopped_line (FileFault name) s w t = inr (inl (s.caused.0, (name, s.caused.1, fronted 7 (error_line name (codes "file fault")) s.told)))
  stopped_line InputFault s w t = inr (inr (inl (s.caused, fronted 11 (error_line (codes "input") (codes "fault")) s.told)))
  stopped_line NoMemory s w t = inr (inr (inr (inl (fronted 9 memory_line s.told))))

  within : (own : ℕ) (line : List ℕ) → own ≤ 12 → ReportsLine own line result before.errors now.errors counts.err counts'.err → result ≤ 12
  within own line small (inl whole) = omega (arith, whole.0, small)
  within own line small (inr part) = elim part.0 [ inl nine ↦ omega (arith, nine) | inr ten ↦ omega (arith, ten.0) ]

  stopped_range : (stop : Stop) → Stopped words time stop result before now counts counts' → result ≤ 12
  stopped_range (Refused refusal) s = within (status_of refusal.reason) (error_line refusal.subject (reason_text refusal.reason)) (status_range refusal.reason) s.told
  stopped_range (FileFault name) s = within 7 (error_line name (codes "file fault")) (omega arith) s.told
  stopped_range InputFault s = within 11 (error_line (codes "input") (codes "fault")) (omega arith) s.told
  stopped_range NoMemory s = within 9 memory_line (omega arith) s.told

  neither : {R : Type 0} → (result ≡ 9) ⊎ ((result ≡ 10) × R) → result ≢ 9 → result ≢ 10 → ⊥
  neither (inl is) nine ten = nine is
  neither (inr is) nine ten = ten is.0

  stopped_said : (stop : Stop) → Stopped words time stop result before now counts counts'
      → ForEachWorld words before now (λ w. (result ≡ 0) ⊎ ((result ≢ 9) × NoFaults counts counts') → IsAsSaid (outcome words time w) result before now)
  stopped_said (Refused refusal) s w t when =
      elim s.told [ inl own ↦ refused_so refusal s w t own.0 own.1 | inr other ↦ absurd (untold other.0 when) ]
  stopped_said (FileFault name) s w t when =
      absurd (elim s.told [
        | inl own ↦ elim when [ inl zero ↦ omega (arith, own.0, zero) | inr calm ↦ calm.1.files s.caused.0 ]
        | inr other ↦ untold other.0 when
      ])
  stopped_said InputFault s w t when =
      absurd (elim s.told [
        | inl own ↦ elim when [
          | inl zero ↦ omega (arith, own.0, zero)
          | inr calm ↦ elim s.caused [ inl i ↦ calm.1.input i | inr d ↦ calm.1.dice d ]
        ]
        | inr other ↦ untold other.0 when
      ])
  stopped_said NoMemory s w t when = absurd (untold (starved s.told) when)

  stopped_refused : (stop : Stop) → Stopped words time stop result before now counts counts'
      → ForEachWorld words before now (λ w. IsRefused (files_named (command_of words)) (outcome words time w) result before now counts counts')
  stopped_refused (Refused refusal) s w t some nine ten =
      elim s.told [ inl own ↦ inl (refused_so refusal s w t own.0 own.1) | inr other ↦ absurd (neither other.0 nine ten) ]
  stopped_refused (FileFault name) s w t some nine ten =
      elim s.told [ inl own ↦ inr (inl (own.0, s.caused.0, (name, s.caused.1, own.1))) | inr other ↦ absurd (neither other.0 nine ten) ]
  stopped_refused InputFault s w t some nine ten =
      elim s.told [ inl own ↦ inr (inr (own.0, s.caused, own.1)) | inr other ↦ absurd (neither other.0 nine ten) ]
  stopped_refused NoMemory s w t some nine ten = absurd (neither (starved s.told) nine ten)

  store_cause : (stop : Stop) → Stopped words time stop result before now counts counts' → result ≡ 7
      → Increased counts.absences counts'.absences ⊎ Increased counts.files counts'.files
  store_cause (Refused refusal) s h =
      elim s.told [
        | inl is ↦ inl (s.caused (seven_missing refusal.reason (sym is.0 ∙ h)))
        | inr other ↦ absurd (neither other.0 (λ x. omega (arith, x, h)) (λ x. omega (arith, x, h)))
      ]
  store_cause (FileFault name) s h = inr s.caused.0
  store_cause InputFault s h =
      absurd (elim s.told [ inl is ↦ omega (arith, is.0, h) | inr other ↦ neither other.0 (λ x. omega (arith, x, h)) (λ x. omega (arith, x, h)) ])
  store_cause NoMemory s h = absurd (neither (starved s.told) (λ x. omega (arith, x, h)) (λ x. omega (arith, x, h)))

  err_rose : (result ≡ 9) ⊎ ((result ≡ 10) × Increased counts.err counts'.err) → result ≡ 10
      → Increased counts.out counts'.out ⊎ Increased counts.err counts'.err
  err_rose (inl nine) h = absurd (omega (arith, nine, h))
  err_rose (inr ten) h = inr ten.1

  output_cause : (stop : Stop) → Stopped words time stop result before now counts counts' → result ≡ 10
      → Increased counts.out counts'.out ⊎ Increased counts.err counts'.err
  output_cause (Refused refusal) s h = elim s.told [ inl is ↦ absurd ((own refusal.reason).ten (sym is.0 ∙ h)) | inr other ↦ err_rose other.0 h ]
  output_cause (FileFault name) s h = elim s.told [ inl is ↦ absurd (omega (arith, is.0, h)) | inr other ↦ err_rose other.0 h ]
  output_cause InputFault s h = elim s.told [ inl is ↦ absurd (omega (arith, is.0, h)) | inr other ↦ err_rose other.0 h ]
  output_cause NoMemory s h = err_rose (starved s.told) h

  input_cause : (stop : Stop) → Stopped words time stop result before now counts counts' → result ≡ 11
      → Increased counts.input counts'.input ⊎ Increased counts.dice counts'.dice
  input_cause (Refused refusal) s h =
      absurd (elim s.told [
        | inl is ↦ (own refusal.reason).eleven (sym is.0 ∙ h)
        | inr other ↦ neither other.0 (λ x. omega (arith, x, h)) (λ x. omega (arith, x, h))
      ])
  input_cause (FileFault name) s h =
      absurd (elim s.told [ inl is ↦ omega (arith, is.0, h) | inr other ↦ neither other.0 (λ x. omega (arith, x, h)) (λ x. omega (arith, x, h)) ])
  input_cause InputFault s h = s.caused
  input_cause NoMemory s h = absurd (neither (starved s.told) (λ x. omega (arith, x, h)) (λ x. omega (arith, x, h)))

  not_done : (stop : Stop) → Stopped words time stop result before now counts counts' → result ≡ 0 → ⊥
  not_done (Refused refusal) s h =
      elim s.told [ inl is ↦ (own refusal.reason).zero (sym is.0 ∙ h) | inr other ↦ neither other.0 (λ x. omega (arith, x, h)) (λ x. omega (arith, x, h)) ]
  not_done (FileFault name) s h =
      elim s.told [ inl is ↦ omega (arith, is.0, h) | inr other ↦ neither other.0 (λ x. omega (arith, x, h)) (λ x. omega (arith, x, h)) ]
  not_done InputFault s h =
      elim s.told [ inl is ↦ omega (arith, is.0, h) | inr other ↦ neither other.0 (λ x. omega (arith, x, h)) (λ x. omega (arith, x, h)) ]
  not_done NoMemory s h = neither (starved s.told) (λ x. omega (arith, x, h)) (λ x. omega (arith, x, h))

  stopped_complete : (stop : Stop) → Stopped words time stop result before now counts counts'
      → ForEachWorld words before now (λ w. IsComplete words time w result counts counts')
  stopped_complete (Refused refusal) s w t ending carried calm =
      let e = sym (s.gives w t).0.is ∙ is_gained words time w ending carried in cc
  stopped_complete (FileFault name) s w t ending carried calm = absurd (calm.files s.caused.0)
  stopped_complete InputFault s w t ending carried calm = absurd (elim s.caused [ inl i ↦ calm.input i | inr d ↦ calm.dice d ])
  stopped_complete NoMemory s w t ending carried calm = elim (starved s.told) [ inl nine ↦ inr nine | inr ten ↦ absurd (calm.err ten.1) ]

  -- The status of words that are no command.
  usage_status : (stop : Stop) → Stopped words time stop result before now counts counts' → IsWordsStop stop → (result ≡ 1) ⊎ (result ≡ 9) ⊎ (result ≡ 10)
  usage_status (Refused refusal) s w =
      elim s.told [ inl is ↦ inl (is.0 ∙ ap status_of w) | inr other ↦ elim other.0 [ inl nine ↦ inr (inl nine) | inr ten ↦ inr (inr ten.0) ] ]
  usage_status (FileFault name) s w = absurd w
  usage_status InputFault s w = absurd w
  usage_status NoMemory s w = elim (starved s.told) [ inl nine ↦ inr (inl nine) | inr ten ↦ inr (inr ten.0) ]

  stopped_usage : (stop : Stop) → Stopped words time stop result before now counts counts' → (refusal : Refusal) → command_of words ≡ Err refusal → standalone_of words ≡ None
      → IsUsage result before now
  stopped_usage stop s refusal wrong none = record {
    status = usage_status stop s (s.wrong refusal wrong none);
    untouched = untouched before now s.written (same_store before.store now.store (s.unwritten (ap may_store_by wrong))) (s.unread refusal wrong)
        (s.undrawn (ap (λ (p : Option Standalone). draws_with p (command_of words)) none ∙ ap draws_by wrong))
        (s.unasked refusal wrong none);
  }

  pub stopped_call : (stop : Stop) → Stopped words time stop result before now counts counts' → IsCall words time result before now counts counts'
  stopped_call stop s = record {
    range = stopped_range stop s;
    safe = record {
      store = λ h. store_cause stop s h;
      output = λ h. output_cause stop s h;
      input = λ h. input_cause stop s h;
      text = λ some nine ten. s.written;
      files = λ some nine ten. s.kept;
      errors = λ zero. absurd (not_done stop s zero);
      draft = s.draft;
      stream = s.stream;
    };
    faultless = λ zero. absurd (not_done stop s zero);
    reads_only = s.unwritten;
    draws_nothing = s.undrawn;
    page = λ text is. absurd (no_none text (page_of words) is s.no_page);
    usage = λ refusal wrong none. stopped_usage stop s refusal wrong none.no_standalone;
    as_said = stopped_said stop s;
    refused = stopped_refused stop s;
    cut = λ w t when. record { text = no_front before.written now.written (outcome words time w).text s.written; store = inl s.kept };
    cut_writes = λ none w t when. inl s.kept;
    one_line = stopped_line stop s;
    authentic = λ none w t zero. absurd (not_done stop s zero);
    agreed_merge = λ w t. merges_agreed words time result before now counts counts' w t (stopped_refused stop s w t) (λ none zero. absurd (not_done stop s zero)) (λ zero. absurd (not_done stop s zero));
    merge_again = λ w t. merges_nothing words time result before now counts counts' w t (stopped_refused stop s w t) (λ none zero. absurd (not_done stop s zero)) (λ zero. absurd (not_done stop s zero));
    complete = stopped_complete stop s;
    some_file = λ none zero. absurd (not_done stop s zero);
  }

-- A call for which memory ran out before anything was read.
pub starved_call : (words : List (List ℕ)) (time : ℕ) (before : Seen) (counts : Counts) → page_of words ≡ None
    → IsCall words time 9 before before counts counts
starved_call words time before counts none = stopped_call words time 9 before before counts counts NoMemory (record {
  gives = λ w t. tt;
  left = λ w t. tt;
  kept = record { files = refl; draft = inr (refl, refl) };
  written = refl;
  draft = inr (refl, refl);
  unwritten = λ e. record { files = refl; draft_name = refl; draft_bytes = refl };
  undrawn = λ e. refl;
  stream = loses_none before.stream;
  caused = tt;
  told = inr (inl refl, no_front before.errors before.errors memory_line refl);
  no_page = none;
  unread = λ refusal wrong. refl;
  unasked = λ refusal wrong none. refl;
  wrong = λ refusal wrong none. tt;
})

-- What is there is not nothing.
pub no_some : (asked : Option (List ℕ)) → IsSome asked → asked ≡ None → ⊥
no_some None some none = cc some
no_some (Some text) some none = cc none
