-- What a line writes holds the document that it leaves.
use Rattle.std.proofs.Common.{◌≡◌, ℕ, Bool, true, cond, List, [], Option, Some, None, Result, Ok, Err, option_map, sym, ap, subst, ◌∙◌}
use Rattle.std.specs.Prelude.{IfOk, IfSome}
use Rattle.std.specs.FinMap.{get, get-insert, insert}
use Rattle.outside_core.specs.Files.{FileMap}
use Rattle.vault_model.proofs.Ids.{id_itself}
use Rattle.vault_model.proofs.Orders.{bytes_order}
use Rattle.vault_model.specs.Tree.{BareDoc}
use Rattle.kdbx_frame.specs.declared.sealings.Sealing.{Sealing}
use Rattle.cli_messages.specs.declared.answers.Refusal.{Refusal}
use Rattle.cli_messages.specs.Phases.{StreamAnswer, after_left, with_left}
use Rattle.cli_needs.specs.declared.command.Command.{Command}
use Rattle.cli_lines.specs.Lines.{LastLines}
use Rattle.call_run.specs.CliFiles.Tasks.{Task}
use Rattle.cli_sessions.specs.SessionLines.{in_session}
use Rattle.cli_writing.specs.Held.{IsWritten}
use Rattle.cli_writing.specs.Writing.{HasFile, NewFile, Store}
use Rattle.call_run.specs.CliCommands.Commands.{Change}
use Rattle.call_run.specs.Endings.{Ending, EndsSo, HoldsNew, IsOfDice, ReadsBack, ReadsBackSo, Stores, Targets, attachment_file, carried_out, change_of_task, ended_so, ended_with, ending_with, new_file, opened_after, targets_of}
use Rattle.session_core.specs.Reading.{LineRead, asks}
use Rattle.session_core.specs.SeenReading.{request_seen}
use Rattle.session_core.specs.declared.reading.LineRequest as memory
use Rattle.session_core.specs.declared.reading.LineRequest.TheVariants as asked
use Rattle.session_core.specs.ReadsBack.{LineReadsBack}
use Rattle.session_core.specs.Sessions.{SessionState, continues, line_after, line_by_change, line_by_file, line_by_request, line_task, state_after}
use Rattle.session_core.proofs.FileNames.{new_named, takes_none_out}

-- ---- bytes that were written twice over

some_is : {A : Type 0} (one other : A) → ◌≡◌ {A = Option A} (Some one) (Some other) → one ≡ other
some_is one other e = cc e

ok_is : {A : Type 0} (one other : A) → ◌≡◌ {A = Result A Refusal} (Ok one) (Ok other) → one ≡ other
ok_is one other e = cc e

found : (files : FileMap) (name bytes : List ℕ) → get (insert files name bytes) name ≡ Some bytes
found files name bytes = get-insert bytes_order.total files name bytes name ∙ ap (λ (b : Bool). cond b (Some bytes) (get files name)) (id_itself name)

-- A file that is the same as another one has its bytes.
same_bytes : (m : FileMap) (before now : Store) (one other : NewFile) → before.files ≡ Some m → one.name ≡ other.name → HasFile one before now → HasFile other before now
    → one.bytes ≡ other.bytes
same_bytes m before now one other is name a b =
    let maps = some_is _ _ (sym (a.files ∙ ap (option_map (λ (x : FileMap). insert x one.name one.bytes)) is) ∙ b.files
    ∙ ap (option_map (λ (x : FileMap). insert x other.name other.bytes)) is) in
    some_is one.bytes other.bytes
    (sym (found m one.name one.bytes) ∙ ap (λ (x : FileMap). get x one.name) maps
    ∙ ap (get (insert m other.name other.bytes)) name ∙ found m other.name other.bytes)

-- ---- a file that was written

-- The new document, or the one of before.
abbrev doc_or : BareDoc → Option BareDoc → BareDoc
doc_or base None = base
doc_or base (Some doc) = doc

module _ (targets : Targets) (sealing : Option Sealing) (m : FileMap) (before now : Store) (is : before.files ≡ Some m) where
  new_reads : (doc : BareDoc) (text : List ℕ) (file : Result NewFile Refusal) (left : List ℕ) (ending : Ending) → IfOk file (λ f. f.name ≡ targets.database)
      → (after_left file left (λ file left. with_left (Ok (ending_with text file)) left)).answer ≡ Ok ending → Stores ending.file before now
      → IsWritten (HoldsNew sealing doc) targets.database before now → IfSome ending.file (λ written. HoldsNew sealing doc written.bytes)
  new_reads doc text (Ok file) left ending name e s w =
      let same : ending_with text file ≡ ending = ok_is _ _ e in
      let stored : HasFile file before now = subst (λ (x : Ending). Stores x.file before now) (sym same) s in
      subst (λ (x : Ending). IfSome x.file (λ written. HoldsNew sealing doc written.bytes)) same
      (subst (HoldsNew sealing doc) (same_bytes m before now (record { name = targets.database; bytes = w.bytes }) file is (sym name) w.alone stored) w.holds)
  new_reads doc text (Err refusal) left ending name e s w = cc e

  ended_reads : targets.attachment ≡ None → (base : BareDoc) (text : List ℕ) (doc : Option BareDoc) (attachment : Option (List ℕ)) (dice : List ℕ) (ending : Ending)
      → (ended_so targets sealing text doc attachment dice).answer ≡ Ok ending → Stores ending.file before now → ReadsBackSo targets sealing doc attachment before now
      → IfSome ending.file (λ written. HoldsNew sealing (doc_or base doc) written.bytes)
  ended_reads none base text None attachment dice ending e s r =
      let same : record { text = text; file = attachment_file targets.attachment attachment } ≡ ending = ok_is _ _ e in
      subst (λ (x : Ending). IfSome x.file (λ written. HoldsNew sealing base written.bytes)) same
      (subst (λ (to : Option (List ℕ)). IfSome (attachment_file to attachment) (λ written. HoldsNew sealing base written.bytes)) (sym none) tt)
  ended_reads none base text (Some doc) attachment dice ending e s r =
      let file = new_file targets.database sealing doc dice in
      new_reads doc text file.answer file.left ending (new_named targets.database sealing doc dice) e s r

-- ---- a line

module _ (time : ℕ) (state : SessionState) (read : LineRead) where
  -- A line that ends its session writes nothing.
  pub ended_reads_back : (sealing : Option Sealing) (request : memory.LineRequest) → read.answer ≡ Ok (request_seen request) → request ≡ asked.Ends
      → LineReadsBack sealing (line_after time state read)
  ended_reads_back sealing request e is =
      subst (λ (r : _). LineReadsBack sealing (line_by_request time (state_after state read) r)) (sym (e ∙ ap (λ (r : memory.LineRequest). Ok (request_seen r)) is)) tt

  -- Nor does one without a word.
  pub passed_reads_back : (sealing : Option Sealing) (request : memory.LineRequest) → read.answer ≡ Ok (request_seen request) → request ≡ asked.Nothing
      → LineReadsBack sealing (line_after time state read)
  passed_reads_back sealing request e is =
      subst (λ (r : _). LineReadsBack sealing (line_by_request time (state_after state read) r)) (sym (e ∙ ap (λ (r : memory.LineRequest). Ok (request_seen r)) is)) tt

  module _ (command : Command) (last : LastLines) (is : read.answer ≡ Ok (asks command last)) where
    abbrev task : Task
    task = line_task state.opened command last

    abbrev made : StreamAnswer Change
    made = change_of_task time task state.dice

    abbrev writes : Change → StreamAnswer Ending
    writes change = ended_with (targets_of command) state.opened.sealing change made.left

    outcome_is : (change : Change) (ending : Ending) → made.answer ≡ Ok change → (writes change).answer ≡ Ok ending
        → line_after time state read
        ≡ continues ending.text [] ending.file (record (state_after state read) { opened = opened_after state.opened change.doc; dice = (writes change).left })
    outcome_is change ending m e =
        ap (line_by_request time (state_after state read)) is
        ∙ ap (λ (r : Result Change Refusal). line_by_change (state_after state read) task r made.left) m
        ∙ ap (λ (r : Result Ending Refusal). line_by_file (state_after state read) change r (writes change).left) e

    written_reads : (change : Change) (ending : Ending) (m : FileMap) (before now : Store) → before.files ≡ Some m → in_session command ≡ true
        → made.answer ≡ Ok change → (writes change).answer ≡ Ok ending → Stores ending.file before now → ReadsBack (targets_of command) state.opened.sealing change before now
        → LineReadsBack state.opened.sealing (line_after time state read)
    written_reads change ending m before now files fits makes ends stores reads =
        subst (LineReadsBack state.opened.sealing) (sym (outcome_is change ending makes ends))
        (after_is change.doc
        (ended_reads (targets_of command) state.opened.sealing m before now files (takes_none_out command fits) state.opened.doc change.text change.doc change.attachment made.left ending ends stores reads))
      where
        after_is : (doc : Option BareDoc) → IfSome ending.file (λ written. HoldsNew state.opened.sealing (doc_or state.opened.doc doc) written.bytes)
            → IfSome ending.file (λ written. HoldsNew state.opened.sealing (opened_after state.opened doc).doc written.bytes)
        after_is None h = h
        after_is (Some doc) h = h

    line_reads : (text printed : List ℕ) (m : FileMap) (before now : Store) → before.files ≡ Some m → in_session command ≡ true
        → EndsSo text (carried_out time task state.dice).answer before now → IsOfDice time task state.dice printed before now
        → LineReadsBack state.opened.sealing (line_after time state read)
    unfolding carried_out
    line_reads text printed m before now files fits done of =
        written_reads of.change done.ending m before now files fits of.makes
        (ap (λ (r : Result Change Refusal). (after_left r made.left (λ change left. ended_with (targets_of command) state.opened.sealing change left)).answer) (sym of.makes) ∙ done.is)
        done.store of.reads_back

    -- What a line writes holds the document that it leaves.
    pub line_reads_back : (t : Task) (text printed : List ℕ) (m : FileMap) (before now : Store) → t ≡ task → before.files ≡ Some m → in_session command ≡ true
        → EndsSo text (carried_out time t state.dice).answer before now → IsOfDice time t state.dice printed before now
        → LineReadsBack state.opened.sealing (line_after time state read)
    line_reads_back t text printed m before now e files fits done of =
        line_reads text printed m before now files fits (subst (λ (t : Task). EndsSo text (carried_out time t state.dice).answer before now) e done)
        (subst (λ (t : Task). IsOfDice time t state.dice printed before now) e of)
