-- What calls result in that merge parts of an agreed set.
use Rattle.std.proofs.Common.{◌≡◌, ◌≢◌, ℕ, Bool, true, false, not, cond, ◌&&◌, inl, inr, List, ◌∷◌, Option, Some, None, Result, Ok, Err, map, refl, sym, ap, subst, ◌∙◌, arith, true≢false}
use Rattle.std.specs.Prelude.{if◌then◌else◌, option_map}
use Rattle.std.specs.FinMap.{get, get-insert}
use Rattle.std.specs.FinMap as map
use Rattle.outside_core.specs.Files.{FileMap}
use Rattle.outside_core.specs.Results.{◌>>=◌}
use Rattle.stream_core.specs.InnerStream.{NoKeystream}
use Rattle.vault_model.specs.Db.{Db}
use Rattle.vault_model.specs.Join.{is_id, join, Agreed}
use Rattle.vault_model.specs.Tree.{BareDoc, LEVELS, IsSettled, db_in}
use Rattle.vault_model.specs.declared.forms.DocForm.TheVariants.{Plain}
use Rattle.vault_model.proofs.Ids.{id_itself, same_id}
use Rattle.vault_model.proofs.Orders.{bytes_order}
use Rattle.vault_model.proofs.Tests.{is_false}
use Rattle.merge_core.specs.JoinLaws.{AreParts, end_to_end}
use Rattle.merge_core.specs.Refusals.{members}
use Rattle.merge_changes.specs.Equality.{same_doc}
use Rattle.merge_changes.proofs.SameValues.{doc_decides}
use Rattle.cli_self_test.specs.DocumentMerge.declared.merging.MergeFail.TheVariants.{RootClash, KindClash, MoveCycle, TooDeep, NoMemory}
use Rattle.cli_self_test.specs.DocumentMerge.Merging.{MergeResult, merge_result}
use Rattle.cli_self_test.specs.AgreedLaws.Merges.{AreDocs, MergesInto}
use Rattle.cli_self_test.proofs.AgreedLaws.Merged.{parts_merged}
use Rattle.cli_self_test.proofs.MergeAgain.MergeAgain.{unchanged_means}
use Rattle.cli_writing.specs.DocWrite.Written.{write_outcome}
use Rattle.cli_writing.specs.DocWrite.declared.writing.WriteFail.{WriteFail}
use Rattle.cli_writing.specs.DocWrite.declared.writing.WriteFail.TheVariants as write
use Rattle.kdbx_frame.specs.declared.settings.Settings.{Settings}
use Rattle.kdbx_frame.specs.declared.sealings.Sealing.{Sealing}
use Rattle.session_run.specs.KdbxSeal.Answers.{size_refusal}
use Rattle.session_run.specs.KdbxSeal.Made.{made_file}
use Rattle.session_run.specs.KdbxSeal.declared.fail.SealFail.{SealFail}
use Rattle.session_run.specs.KdbxSeal.declared.fail.SealFail.TheVariants as seal
use Rattle.cli_messages.specs.Messages.{status_of}
use Rattle.cli_messages.specs.Phases.{IsLeft, StreamAnswer, TellsStream, after_left, with_left}
use Rattle.cli_messages.specs.declared.answers.Refusal.{Refusal}
use Rattle.cli_needs.specs.declared.command.Access.{Access}
use Rattle.cli_needs.specs.declared.command.Command.{Command}
use Rattle.cli_needs.specs.declared.command.Command.TheVariants.{Ls, Show, History, Search, Add, Edit, Restore, ExportAttachment, ImportAttachment, RemoveAttachment, Move, Remove, MakeGroup, RemoveGroup, Merge, Import, Create, Export, EditFile, Info}
use Rattle.cli_needs.specs.Needs.{files_named}
use Rattle.cli_parse.specs.Words.{command_of}
use Rattle.cli_lines.specs.Lines.{Lines}
use Rattle.cli_files.specs.Files.{Opened, plain_document}
use Rattle.call_input.specs.CliDatabases.Held.{HoldsBy}
use Rattle.cli_writing.specs.Writing.{Store, file_or_refusal, write_answer}
use Rattle.session_run.specs.CliSealing.Draws.{draws_of}
use Rattle.session_run.specs.CliSealing.Held.{contents_with}
use Rattle.session_run.specs.CliSealing.Sealing.{file_by, file_unless, seal_answer, settings_for}
use Rattle.session_run.specs.CliMerging.Merging.{AfterMerge, after_merge, after_merged, changes_between, merged_or_refusal}
use Rattle.session_run.specs.CliMerging.Details.{merge_report}
use Rattle.session_run.specs.CliCommands.Commands.{Change, merged_change}
use Rattle.session_run.specs.CallRun.Endings.{Ending, HoldsNew, ReadsBack, ReadsBackSo, Targets, carried_out, change_of_task, ended_so, ended_with, ending_with, new_file, targets_of}
use Rattle.keepass_call.specs.Held.{IsAuthentic, IsTask}
use Rattle.keepass_call.specs.Merges.{HoldsDatabase, HoldsUnder, IsUntouched, MergesAgreed, MergesNothing, MergesParts, TargetHolds, merges, unmodified_text}
use Rattle.cli_reporting.specs.Reporting.{Gains}
use Rattle.keepass_call.specs.Outcome.{AsksCommand, Counts, IsAsSaid, IsRefused, IsWorldOf, Seen, World, answer_of, draws_words, ended, outcome}
use Rattle.cli_files.specs.Tasks.{Task}
use Rattle.keepass_call.proofs.Answered.{answer_is}
use Rattle.keepass_call.proofs.HeldTasks.{task_given}
use Rattle.keepass_call.proofs.Pages.{asks_command}
use Rattle.keepass_call.proofs.TaskDocs.{task_docs}

-- ---- answers that are of another status than 6

abbrev NotSix : {A : Type 0} → Result A Refusal → Type 0
NotSix (Ok x) = Unit {0}
NotSix (Err refusal) = status_of refusal.reason ≢ 6

after_not_six : {A B : Type 0} (r : Result A Refusal) (left : List ℕ) (next : A → List ℕ → StreamAnswer B) → NotSix r
    → ((x : A) (l : List ℕ) → NotSix (next x l).answer) → NotSix (after_left r left next).answer
after_not_six (Ok x) left next h f = f x left
after_not_six (Err refusal) left next h f = h

write_not_six : (why : WriteFail) → status_of (write_answer why) ≢ 6
write_not_six (write.TooMany count) = λ h. omega arith
write_not_six (write.TooLarge length) = λ h. omega arith
write_not_six write.NoMemory = λ h. omega arith

seal_not_six : (why : SealFail) → status_of (seal_answer why) ≢ 6
seal_not_six (seal.TooMany count) = λ h. omega arith
seal_not_six (seal.TooLarge length) = λ h. omega arith
seal_not_six seal.FileFault = λ h. omega arith
seal_not_six seal.NoMemory = λ h. omega arith

plain_not_six : (name : List ℕ) (r : Result (List ℕ) WriteFail) → NotSix (file_or_refusal name r)
plain_not_six name (Ok text) = tt
plain_not_six name (Err why) = write_not_six why

unless_not_six : (name : List ℕ) (o : Option SealFail) (bytes : List ℕ) → NotSix (file_unless name o bytes)
unless_not_six name None bytes = tt
unless_not_six name (Some why) bytes = seal_not_six why

sealed_not_six : (name : List ℕ) (settings : Settings) (composite : List ℕ) (doc : BareDoc) (dice : List ℕ) → NotSix (file_by name settings composite doc dice).answer
unfolding file_by
sealed_not_six name settings composite doc dice =
    unless_not_six name (size_refusal settings (draws_of settings dice) doc) (made_file settings (draws_of settings dice) composite doc)

file_not_six : (name : List ℕ) (sealing : Option Sealing) (doc : BareDoc) (dice : List ℕ) → NotSix (new_file name sealing doc dice).answer
file_not_six name None doc dice = plain_not_six name (write_outcome Plain NoKeystream None doc)
file_not_six name (Some sealing) doc dice = sealed_not_six name (settings_for sealing.settings doc) sealing.composite doc dice

ended_not_six : (targets : Targets) (sealing : Option Sealing) (text : List ℕ) (doc : Option BareDoc) (attachment : Option (List ℕ)) (dice : List ℕ)
    → NotSix (ended_so targets sealing text doc attachment dice).answer
ended_not_six targets sealing text None attachment dice = tt
ended_not_six targets sealing text (Some doc) attachment dice =
    after_not_six (new_file targets.database sealing doc dice).answer (new_file targets.database sealing doc dice).left (λ file left. with_left (Ok (ending_with text file)) left)
    (file_not_six targets.database sealing doc dice) (λ file left. tt)

status_not_six : (left : List ℕ) (r : Result Ending Refusal) (dice : List ℕ) → NotSix r → (ended left r dice).status ≢ 6
status_not_six left (Ok ending) dice h = λ e. omega arith
status_not_six left (Err refusal) dice h = h

-- ---- a merge

module _ (file : List ℕ) (quiet details : Bool) (names : List (List ℕ)) (t : BareDoc) (ss : List BareDoc) where
  -- what comes of a merge's result
  abbrev after : MergeResult → Result AfterMerge Refusal
  after r = merged_or_refusal file r >>= λ new. Ok (after_merged file quiet false details names t ss (not (same_doc t new)) new (changes_between t ss new))

  after_is : after_merge file quiet false details names t ss ≡ after (merge_result t ss)
  unfolding after_merge
  after_is = refl

  result_not_six : (m : Db) (r : MergeResult) → MergesInto m r → NotSix (merged_change (after r))
  result_not_six m (Ok new) h = tt
  result_not_six m (Err (TooDeep u)) h = λ e. omega arith
  result_not_six m (Err (RootClash u)) h = absurd h
  result_not_six m (Err (KindClash u)) h = absurd h
  result_not_six m (Err (MoveCycle us)) h = absurd h
  result_not_six m (Err NoMemory) h = absurd h

  change_not_six : (m : Db) → MergesInto m (merge_result t ss) → NotSix (merged_change (after_merge file quiet false details names t ss))
  change_not_six m h = subst (λ (r : Result AfterMerge Refusal). NotSix (merged_change r)) (sym after_is) (result_not_six m (merge_result t ss) h)

  -- What a merge made that was not refused.
  record IsMade (change : Change) : Type 0 where
    new : BareDoc
    merged : merge_result t ss ≡ Ok new
    text : merge_report quiet false details (not (not (same_doc t new))) file names t ss new (changes_between t ss new) ≡ change.text
    doc : (if not (same_doc t new) && true then Some new else None) ≡ change.doc

  abbrev changed : Change → Result Change Refusal → Change
  changed other (Ok change) = change
  changed other (Err refusal) = other

  made_by : (change : Change) (r : MergeResult) → merge_result t ss ≡ r → merged_change (after r) ≡ Ok change → IsMade change
  made_by change (Ok new) e h =
      let is = ap (changed change) h in
      record { new = new; merged = e; text = ap (λ (c : Change). c.text) is; doc = ap (λ (c : Change). c.doc) is }
  made_by change (Err why) e h = cc h

  made : (change : Change) → merged_change (after_merge file quiet false details names t ss) ≡ Ok change → IsMade change
  made change h = made_by change (merge_result t ss) refl (ap merged_change (sym after_is) ∙ h)

-- ---- what the target holds

module _ (file : List ℕ) (files : FileMap) where
  abbrev HoldsAt : Option Sealing → BareDoc → Type 0
  HoldsAt sealing doc = (bytes : List ℕ) × ((get files file ≡ Some bytes) × HoldsUnder sealing doc bytes)

  held_at : (plain : Bool) (key_file : Option (List ℕ)) (password : Option (List ℕ)) (opened : Opened) → HoldsBy plain key_file file password files opened
      → HoldsAt opened.sealing opened.doc
  held_at true key_file password opened h =
      (h.bytes, (h.there.found, subst (λ (o : Opened). HoldsUnder o.sealing o.doc h.bytes) h.is (h.read, (h.says, refl))))
  held_at false key_file password opened h =
      (h.bytes, (h.there.found, subst (λ (o : Opened). HoldsUnder o.sealing o.doc h.bytes) h.is (h.vault, (h.sealed, refl))))

holds_new : (sealing : Option Sealing) (doc : BareDoc) (bytes : List ℕ) → HoldsNew sealing doc bytes → HoldsUnder sealing doc bytes
unfolding plain_document
holds_new None doc bytes h = ((doc, None), (h, refl))
holds_new (Some sealing) doc bytes h = (contents_with (settings_for sealing.settings doc) h.0 doc, (h.1, refl))

module _ (name : List ℕ) (sealing : Option Sealing) (t new : BareDoc) (files : FileMap) (before now : Store) (are : before.files ≡ Some files) (held : HoldsAt name files sealing t) where
  -- A merge takes nothing out into a file.
  abbrev targets : Targets
  targets = record { database = name; attachment = None }

  target_holds : (same : Bool) (attachment : Option (List ℕ)) → same_doc t new ≡ same
      → ReadsBackSo targets sealing (if not same && true then Some new else None) attachment before now
      → TargetHolds name sealing new files now
  target_holds true attachment e h = record {
    files = files;
    are = h.files ∙ are;
    bytes = held.0;
    found = held.1.0;
    holds = subst (λ (d : BareDoc). HoldsUnder sealing d held.0) (doc_decides.says t new e) held.1.1;
    others = λ other off. refl;
  }
  target_holds false attachment e h = record {
    files = map.insert files name h.bytes;
    are = h.alone.files ∙ ap (option_map (λ (m : FileMap). map.insert m name h.bytes)) are;
    bytes = h.bytes;
    found = get-insert bytes_order.total files name h.bytes name ∙ ap (λ b. cond b (Some h.bytes) (get files name)) (id_itself name);
    holds = holds_new sealing new h.bytes h.holds;
    others = λ other off.
        get-insert bytes_order.total files name h.bytes other
        ∙ ap (λ b. cond b (Some h.bytes) (get files other)) (is_false (is_id other name) (λ q. off (same_id other name q)));
  }

-- ---- a task that merges parts of an agreed set

-- What is known of it.
record AgreedTask (words : List (List ℕ)) (time : ℕ) (world : World) (parts : List (List Db)) (task : Task) : Type 0 where
  is_task : IsTask words time world task
  set : List Db
  agreed : Agreed set
  are_parts : AreParts parts set
  joins : map db_in (task.opened.doc ∷ task.sources) ≡ map join parts

-- What it made.
record Carried (time : ℕ) (world : World) (before now : Seen) (task : Task) : Type 0 where
  change : Change
  makes : (change_of_task time task world.dice).answer ≡ Ok change
  text : Gains before.written now.written change.text
  reads_back : ReadsBack (targets_of task.command) task.opened.sealing change before.store now.store

-- The words of a merge that is no dry run.
record MergeWords (command : Command) : Type 0 where
  access : Access
  file : List ℕ
  names : List (List ℕ)
  from : Access
  same : Bool
  details : Bool
  is : Merge access file names from same false details ≡ command

merge_words : (command : Command) → merges command ≡ true → MergeWords command
merge_words (Ls access file group recursive flat ids) e = absurd (true≢false (sym e))
merge_words (Show access file entry clear all attachments names totp at) e = absurd (true≢false (sym e))
merge_words (History access file entry) e = absurd (true≢false (sym e))
merge_words (Search access file term) e = absurd (true≢false (sym e))
merge_words (Add access file entry asked) e = absurd (true≢false (sym e))
merge_words (Edit access file entry asked further) e = absurd (true≢false (sym e))
merge_words (Restore access file entry version) e = absurd (true≢false (sym e))
merge_words (ExportAttachment access file entry name to) e = absurd (true≢false (sym e))
merge_words (ImportAttachment access file entry name source replaces) e = absurd (true≢false (sym e))
merge_words (RemoveAttachment access file entry name) e = absurd (true≢false (sym e))
merge_words (Move access file node group) e = absurd (true≢false (sym e))
merge_words (Remove access file entry) e = absurd (true≢false (sym e))
merge_words (MakeGroup access file group) e = absurd (true≢false (sym e))
merge_words (RemoveGroup access file group) e = absurd (true≢false (sym e))
merge_words (Merge access file names from same true details) e = absurd (true≢false (sym e))
merge_words (Import access format source from file) e = absurd (true≢false (sym e))
merge_words (Create access file name cipher kdf) e = absurd (true≢false (sym e))
merge_words (Export access format file) e = absurd (true≢false (sym e))
merge_words (EditFile access file change) e = absurd (true≢false (sym e))
merge_words (Info access file) e = absurd (true≢false (sym e))
merge_words (Merge access file names from same false details) e = record { access = access; file = file; names = names; from = from; same = same; details = details; is = refl }

ok_is : {A : Type 0} (a b : A) → ◌≡◌ {A = Result A Refusal} (Ok a) (Ok b) → a ≡ b
ok_is a b h = cc

merged_is : (a b : BareDoc) → ◌≡◌ {A = MergeResult} (Ok a) (Ok b) → a ≡ b
merged_is a b h = cc

-- of dice that report what they hold nothing is gone where all of it is left
none_gone : (asked : Bool) (dice : List ℕ) (before now : Option (List ℕ)) → TellsStream asked before dice → IsLeft before now dice → now ≡ before
none_gone asked dice None now t h = h
none_gone asked dice (Some left) now t h = h ∙ ap Some (sym t)

ended_dice : (left : List ℕ) (r : Result Ending Refusal) (dice : List ℕ) → (ended left r dice).dice ≡ dice
ended_dice left (Ok ending) dice = refl
ended_dice left (Err refusal) dice = refl

report_same : (quiet details same : Bool) (file : List ℕ) (names : List (List ℕ)) (old : BareDoc) (ss : List BareDoc) (new : BareDoc) (changes : _) → same ≡ true
    → merge_report quiet false details (not (not same)) file names old ss new changes ≡ unmodified_text quiet
report_same true details same file names old ss new changes e = refl
report_same false true same file names old ss new changes e = ap (λ b. merge_report false false true (not (not b)) file names old ss new changes) e
report_same false false same file names old ss new changes e = ap (λ b. merge_report false false false (not (not b)) file names old ss new changes) e

module _ (words : List (List ℕ)) (time result : ℕ) (before now : Seen) (counts counts' : Counts) (world : World) (told : IsWorldOf words before now world)
    (refused : IsRefused (files_named (command_of words)) (outcome words time world) result before now counts counts')
    (authentic : AsksCommand words → result ≡ 0 → IsAuthentic words time world before now)
    (said : result ≡ 0 → IsAsSaid (outcome words time world) result before now) where
  carried : (task : Task) → IsTask words time world task → result ≡ 0 → Carried time world before now task
  carried task is zero =
      let a = authentic (asks_command words task.command is.is_command) zero in
      let same = ok_is a.task task (sym (task_given words time world a.task a.is_task) ∙ task_given words time world task is) in
      subst (Carried time world before now) same (record { change = a.change; makes = a.makes; text = a.text; reads_back = a.reads_back })

  module _ (access : Access) (file : List ℕ) (names : List (List ℕ)) (from : Access) (same details : Bool) (lines : Lines) (opened : Opened) (sources : List BareDoc) (attached : Option (List ℕ)) where
    abbrev task : Task
    task = record { command = Merge access file names from same false details; lines = lines; opened = opened; sources = sources; attached = attached }

    abbrev t : BareDoc
    t = opened.doc

    abbrev change_is : Result Change Refusal
    change_is = merged_change (after_merge file access.quiet false details names t sources)

    abbrev next : Change → List ℕ → StreamAnswer Ending
    next change left = ended_with (targets_of task.command) opened.sealing change left

    carried_is : carried_out time task world.dice ≡ after_left change_is world.dice next
    unfolding carried_out
    carried_is = refl

    answer_so : IsTask words time world task → answer_of words time world ≡ after_left change_is world.dice next
    answer_so is = answer_is words time world task (task_given words time world task is) ∙ carried_is

    module _ (parts : List (List Db)) (a : AgreedTask words time world parts task) where
      are_docs : AreDocs (t ∷ sources)
      are_docs = task_docs words time world task refl a.is_task

      into : MergesInto (join (end_to_end parts)) (merge_result t sources)
      into = parts_merged t sources a.set parts are_docs a.agreed a.are_parts a.joins

      answer_not_six : NotSix (answer_of words time world).answer
      answer_not_six =
          subst (λ (s : StreamAnswer Ending). NotSix s.answer) (sym (answer_so a.is_task))
          (after_not_six change_is world.dice next (change_not_six file access.quiet details names t sources (join (end_to_end parts)) into)
          (λ change left. ended_not_six (targets_of task.command) opened.sealing change.text change.doc change.attachment left))

      not_refused : result ≢ 6
      not_refused six =
          elim (refused (λ z. omega (arith, z, six)) (λ z. omega (arith, z, six)) (λ z. omega (arith, z, six))) [
            | inl is ↦ status_not_six _ (answer_of words time world).answer _ answer_not_six (sym is.status ∙ six)
            | inr fault ↦ elim fault [ inl f ↦ omega (arith, f.0, six) | inr d ↦ omega (arith, d.0, six) ]
          ]

      merged : result ≡ 0 → HoldsDatabase task (join (end_to_end parts)) world now
      merged zero =
          let c = carried task a.is_task zero in
          let m = made file access.quiet details names t sources c.change c.makes in
          record {
            doc = m.new;
            is = subst (MergesInto (join (end_to_end parts))) m.merged into;
            target = target_holds file opened.sealing t m.new world.files before.store now.store told.files
                (held_at file world.files access.plain access.key_file lines.password opened a.is_task.holds.target)
                (same_doc t m.new) c.change.attachment refl
                (subst (λ (d : Option BareDoc). ReadsBackSo (targets_of task.command) opened.sealing d c.change.attachment before.store now.store) (sym m.doc) c.reads_back);
          }

      merges_parts : MergesParts task parts world result now
      merges_parts = record { not_refused = not_refused; merged = merged }

    module _ (is_task : IsTask words time world task) (settled : IsSettled LEVELS t) (joined : join (members t sources) ≡ db_in t) (zero : result ≡ 0) where
      untouched : IsUntouched task before now
      untouched =
          let c = carried task is_task zero in
          let m = made file access.quiet details names t sources c.change c.makes in
          let is : t ≡ m.new = sym ((unchanged_means t sources m.new (task_docs words time world task refl is_task) m.merged).1 (settled, joined)) in
          let equal : same_doc t m.new ≡ true = ap (same_doc t) (sym is) ∙ doc_decides.holds t in
          let no_doc : c.change.doc ≡ None = sym m.doc ∙ ap (λ b. if not b && true then Some m.new else None) equal in
          let left : (answer_of words time world).left ≡ world.dice =
          ap (λ (s : StreamAnswer Ending). s.left) (answer_so is_task)
          ∙ ap (λ (r : Result Change Refusal). (after_left r world.dice next).left) c.makes
          ∙ ap (λ (d : Option BareDoc). (ended_so (targets_of task.command) opened.sealing c.change.text d c.change.attachment world.dice).left) no_doc in
          record {
            text = subst (Gains before.written now.written) (sym m.text ∙ report_same access.quiet details (same_doc t m.new) file names t sources m.new (changes_between t sources m.new) equal) c.text;
            store = subst (λ (d : Option BareDoc). ReadsBackSo (targets_of task.command) opened.sealing d c.change.attachment before.store now.store) no_doc c.reads_back;
            dice = none_gone (draws_words words) world.dice before.stream now.stream told.dice
                (subst (IsLeft before.stream now.stream) (ended_dice _ (answer_of words time world).answer _ ∙ left) (said zero).stream);
          }

  -- ---- by the command

  pub merges_agreed : MergesAgreed words time world result now
  merges_agreed parts m =
      let w = merge_words m.task.command m.is_merge in
      subst (λ (c : Command). AgreedTask words time world parts (record m.task { command = c }) → MergesParts (record m.task { command = c }) parts world result now) w.is
      (merges_parts w.access w.file w.names w.from w.same w.details m.task.lines m.task.opened m.task.sources m.task.attached parts)
      (record { is_task = m.is_task; set = m.set; agreed = m.agreed; are_parts = m.are_parts; joins = m.joins })

  pub merges_nothing : MergesNothing words time world result before now
  merges_nothing g zero =
      let w = merge_words g.task.command g.is_merge in
      subst (λ (c : Command). IsTask words time world (record g.task { command = c }) → IsUntouched (record g.task { command = c }) before now) w.is
      (λ k. untouched w.access w.file w.names w.from w.same w.details g.task.lines g.task.opened g.task.sources g.task.attached k g.settled g.joined zero)
      g.is_task
