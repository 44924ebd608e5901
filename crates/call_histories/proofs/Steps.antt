-- What one event does to the documents of the copies.
use Rattle.std.proofs.Common.{◌≡◌, ◌≢◌, ◌<◌, ◌⊎◌, ℕ, Bool, true, false, cond, inl, inr, List, [], ◌∷◌, ◌++◌, Option, Some, None, Result, Ok, Err, refl, sym, ap, subst, ◌∙◌, true≢false}
use Rattle.std.specs.Prelude.{◌||◌, if◌then◌else◌, is_some}
use Rattle.std.proofs.lemmas.Option.{same_Some}
use Rattle.std.specs.FinMap.{get, get-insert, insert}
use Rattle.std.specs.Option.{unwrap_or}
use Rattle.outside_core.specs.Files.{FileMap}
use Rattle.vault_model.specs.Db.{Db}
use Rattle.vault_model.specs.Join.{is_id}
use Rattle.vault_model.specs.Plans.{Replica, learned_by, put}
use Rattle.vault_model.specs.Plans as plans
use Rattle.vault_model.specs.Tree.{BareDoc, IsDoc, db_in}
use Rattle.vault_model.proofs.Ids.{id_itself, same_id}
use Rattle.vault_model.proofs.Orders.{bytes_order}
use Rattle.vault_model.proofs.Tests.{is_false}
use Rattle.tree_core.proofs.Options.{never}
use Rattle.document_merge.specs.Merging.{merge_result}
use Rattle.agreed_laws.specs.Runs.{docs_of}
use Rattle.command_laws.specs.Growing.{GrowsInCurrent}
use Rattle.run_laws.specs.TrimmedRuns.{AreDocEvents, DocEvent, after_doc_events, growth, joining, overwriting}
use Rattle.cli_messages.specs.declared.answers.Refusal.{Refusal}
use Rattle.cli_needs.specs.declared.command.Access.{Access}
use Rattle.cli_needs.specs.declared.command.Command.{Command}
use Rattle.cli_needs.specs.declared.command.Command.TheVariants.{Ls, Show, History, Search, Add, Edit, Restore, ExportAttachment, ImportAttachment, RemoveAttachment, Move, Remove, MakeGroup, RemoveGroup, Merge, Import, Create, Export, EditFile, Info}
use Rattle.cli_needs.specs.Needs as from
use Rattle.cli_needs.specs.Needs.{Needs, Origin, exported_to, needs_of, origin_of, target_of}
use Rattle.cli_parse.specs.Words.{command_of}
use Rattle.cli_lines.specs.Lines.{Lines}
use Rattle.cli_files.specs.Files.{Databases}
use Rattle.cli_files.specs.Tasks.{Task, databases_in}
use Rattle.cli_databases.specs.Held.{HoldDatabases}
use Rattle.call_input.specs.Opening.{HoldByOrigin, HoldCommandDatabases}
use Rattle.cli_changes.specs.Attachments.{attachment_bytes, export_report}
use Rattle.cli_commands.specs.Commands.{Change, Inputs, change_of, exported_file, may_write}
use Rattle.change_laws.specs.Changes.{edits}
use Rattle.change_laws.proofs.Changed.{commands_grow, merges_merge}
use Rattle.call_run.specs.Endings.{ReadsBackSo, Stores, Targets, attachment_file, change_of_task, inputs_of, targets_of}
use Rattle.keepass_call.specs.Held.{IsTask, WritesTask}
use Rattle.keepass_call.specs.Merges.{merges}
use Rattle.keepass_call.specs.Outcome.{may_store_by, may_write_by}
use Rattle.keepass_call.proofs.Pages.{asks_command}
use Rattle.call_conditions.specs.Copies.{AreApart, CallSeen, Copies, CopyHolds, Disks, HoldsDoc, OpensCopies, is_opened}
use Rattle.call_conditions.specs.Histories.{Did, Event, IsCallOn, IsDeed, IsEvent, call, copied, disks_after, done, made_by, put_files, with_bytes}
use Rattle.call_histories.proofs.Held.{IsHeld, IsThat, IsWritten, changed, copies_opened, copy_opened, either, held_is_doc, kept, key_in, taken_out, written}

-- ---- commands that may write

-- A command changes its document by itself, or is this merge.
record IsMerge (command : Command) : Type 0 where
  access : Access
  file : List ℕ
  names : List (List ℕ)
  from : Access
  same : Bool
  details : Bool
  is : Merge access file names from same false details ≡ command

abbrev Kind : Command → Type 0
Kind command = ((edits command ≡ true) × (merges command ≡ false)) ⊎ IsMerge command

kind_of : (command : Command) → may_write command ≡ true → is_opened (origin_of command) ≡ true → Kind command
kind_of (Ls access file group recursive flat ids) w i = absurd (true≢false (sym w))
kind_of (Show access file entry clear all attachments names totp at) w i = absurd (true≢false (sym w))
kind_of (History access file entry) w i = absurd (true≢false (sym w))
kind_of (Search access file term) w i = absurd (true≢false (sym w))
kind_of (Add access file entry asked) w i = inl (refl, refl)
kind_of (Edit access file entry asked further) w i = inl (refl, refl)
kind_of (Restore access file entry version) w i = inl (refl, refl)
kind_of (ExportAttachment access file entry name to) w i = absurd (true≢false (sym w))
kind_of (ImportAttachment access file entry name source replaces) w i = inl (refl, refl)
kind_of (RemoveAttachment access file entry name) w i = inl (refl, refl)
kind_of (Move access file node group) w i = inl (refl, refl)
kind_of (Remove access file entry) w i = inl (refl, refl)
kind_of (MakeGroup access file group) w i = inl (refl, refl)
kind_of (RemoveGroup access file group) w i = inl (refl, refl)
kind_of (Merge access file names from same true details) w i = absurd (true≢false (sym w))
kind_of (Merge access file names from same false details) w i = inr (record { access = access; file = file; names = names; from = from; same = same; details = details; is = refl })
kind_of (Import access format source from file) w i = absurd (true≢false (sym i))
kind_of (Create access file name cipher kdf) w i = absurd (true≢false (sym i))
kind_of (Export access format file) w i = absurd (true≢false (sym w))
kind_of (EditFile access file change) w i = absurd (true≢false (sym i))
kind_of (Info access file) w i = absurd (true≢false (sym w))

-- the file of a database that is opened as it is
opened_target : (command : Command) → is_opened (origin_of command) ≡ true → target_of command ≡ (needs_of command).file
opened_target (Ls access file group recursive flat ids) is = refl
opened_target (Show access file entry clear all attachments names totp at) is = refl
opened_target (History access file entry) is = refl
opened_target (Search access file term) is = refl
opened_target (Add access file entry asked) is = refl
opened_target (Edit access file entry asked further) is = refl
opened_target (Restore access file entry version) is = refl
opened_target (ExportAttachment access file entry name to) is = refl
opened_target (ImportAttachment access file entry name source replaces) is = refl
opened_target (RemoveAttachment access file entry name) is = refl
opened_target (Move access file node group) is = refl
opened_target (Remove access file entry) is = refl
opened_target (MakeGroup access file group) is = refl
opened_target (RemoveGroup access file group) is = refl
opened_target (Merge access file names from same dry details) is = refl
opened_target (Import access format source from file) is = absurd (true≢false (sym is))
opened_target (Create access file name cipher kdf) is = absurd (true≢false (sym is))
opened_target (Export access format file) is = refl
opened_target (EditFile access file change) is = absurd (true≢false (sym is))
opened_target (Info access file) is = refl

-- what may write its database takes nothing out
takes_nothing : (command : Command) → may_write command ≡ true → exported_to command ≡ None
takes_nothing (Ls access file group recursive flat ids) w = refl
takes_nothing (Show access file entry clear all attachments names totp at) w = refl
takes_nothing (History access file entry) w = refl
takes_nothing (Search access file term) w = refl
takes_nothing (Add access file entry asked) w = refl
takes_nothing (Edit access file entry asked further) w = refl
takes_nothing (Restore access file entry version) w = refl
takes_nothing (ExportAttachment access file entry name to) w = absurd (true≢false (sym w))
takes_nothing (ImportAttachment access file entry name source replaces) w = refl
takes_nothing (RemoveAttachment access file entry name) w = refl
takes_nothing (Move access file node group) w = refl
takes_nothing (Remove access file entry) w = refl
takes_nothing (MakeGroup access file group) w = refl
takes_nothing (RemoveGroup access file group) w = refl
takes_nothing (Merge access file names from same dry details) w = refl
takes_nothing (Import access format source from file) w = refl
takes_nothing (Create access file name cipher kdf) w = refl
takes_nothing (Export access format file) w = refl
takes_nothing (EditFile access file change) w = refl
takes_nothing (Info access file) w = refl

-- what a database is opened of
opened_databases : (origin : Origin) (needs : Needs) (lines : Lines) (time : ℕ) (files : FileMap) (databases : Databases) → is_opened origin ≡ true → HoldByOrigin origin needs lines time files databases
    → HoldDatabases needs lines files databases
opened_databases from.Opened needs lines time files databases e h = h
opened_databases (from.Exported to) needs lines time files databases e h = h.1
opened_databases (from.Attached source) needs lines time files databases e h = h
opened_databases (from.Imported import) needs lines time files databases e h = absurd (true≢false (sym e))
opened_databases (from.Created create) needs lines time files databases e h = absurd (true≢false (sym e))
opened_databases (from.Changed change) needs lines time files databases e h = absurd (true≢false (sym e))

-- ---- an attachment that is taken out

change_is : (a b : Change) → ◌≡◌ {A = Result Change Refusal} (Ok a) (Ok b) → a ≡ b
change_is a b h = cc h

no_document : (quiet : Bool) (path name to : List ℕ) (bytes : Result (List ℕ) Refusal) (change : Change) → exported_file quiet path name to bytes ≡ Ok change → change.doc ≡ None
no_document quiet path name to (Ok bytes) change is =
    sym (ap (λ (c : Change). c.doc) (change_is (record { text = export_report quiet path name to; doc = None; attachment = Some bytes }) change is))
no_document quiet path name to (Err refusal) change is = cc is

-- The file is new, and no document is written.
abbrev TakesOut : FileMap → List ℕ → Change → Type 0
TakesOut files to change = (get files to ≡ None) × (change.doc ≡ None)

takes_out : (time : ℕ) (command : Command) (lines : Lines) (input : Inputs) (doc : BareDoc) (databases : Databases) (files : FileMap) (dice : List ℕ) (change : Change) (to : List ℕ)
    → exported_to command ≡ Some to → HoldCommandDatabases command lines time files databases → (change_of time command input doc dice).answer ≡ Ok change → TakesOut files to change
takes_out time (ExportAttachment access file entry name None) lines input doc databases files dice change to is holds makes = never to is
takes_out time (ExportAttachment access file entry name (Some other)) lines input doc databases files dice change to is holds makes = (
  subst (λ (n : List ℕ). get files n ≡ None) (same_Some other to is) holds.0,
  no_document access.quiet entry name other (attachment_bytes file entry name doc) change makes,
)
takes_out time (Ls access file group recursive flat ids) lines input doc databases files dice change to is holds makes = never to is
takes_out time (Show access file entry clear all attachments names totp at) lines input doc databases files dice change to is holds makes = never to is
takes_out time (History access file entry) lines input doc databases files dice change to is holds makes = never to is
takes_out time (Search access file term) lines input doc databases files dice change to is holds makes = never to is
takes_out time (Add access file entry asked) lines input doc databases files dice change to is holds makes = never to is
takes_out time (Edit access file entry asked further) lines input doc databases files dice change to is holds makes = never to is
takes_out time (Restore access file entry version) lines input doc databases files dice change to is holds makes = never to is
takes_out time (ImportAttachment access file entry name source replaces) lines input doc databases files dice change to is holds makes = never to is
takes_out time (RemoveAttachment access file entry name) lines input doc databases files dice change to is holds makes = never to is
takes_out time (Move access file node group) lines input doc databases files dice change to is holds makes = never to is
takes_out time (Remove access file entry) lines input doc databases files dice change to is holds makes = never to is
takes_out time (MakeGroup access file group) lines input doc databases files dice change to is holds makes = never to is
takes_out time (RemoveGroup access file group) lines input doc databases files dice change to is holds makes = never to is
takes_out time (Merge access file names from same dry details) lines input doc databases files dice change to is holds makes = never to is
takes_out time (Import access format source from file) lines input doc databases files dice change to is holds makes = never to is
takes_out time (Create access file name cipher kdf) lines input doc databases files dice change to is holds makes = never to is
takes_out time (Export access format file) lines input doc databases files dice change to is holds makes = never to is
takes_out time (EditFile access file edit) lines input doc databases files dice change to is holds makes = never to is
takes_out time (Info access file) lines input doc databases files dice change to is holds makes = never to is

-- where words take an attachment out
abbrev exported_by : Result Command Refusal → Option (List ℕ)
exported_by (Ok command) = exported_to command
exported_by (Err refusal) = None

merges_so : (command : Command) → IsMerge command → merges command ≡ true
merges_so command m = ap merges (sym m.is)

-- ---- what a task makes

-- What is done to a target, and the document that it has then.
record Makes (t : BareDoc) (ss : List BareDoc) (command : Command) (doc : Option BareDoc) : Type 0 where
  new : BareDoc
  is : (doc ≡ Some new) ⊎ ((doc ≡ None) × (t ≡ new))
  by : ((merges command ≡ false) × ((doc ≡ Some new) × (IsDoc new → GrowsInCurrent t new))) ⊎ ((merges command ≡ true) × (merge_result t ss ≡ Ok new))

task_makes : (time : ℕ) (task : Task) (dice : List ℕ) (change : Change) → IsDoc task.opened.doc → Kind task.command
    → (change_of_task time task dice).answer ≡ Ok change → Makes task.opened.doc task.sources task.command change.doc
task_makes time task dice change isd (inl e) h =
    let g = commands_grow time task.command (inputs_of task) task.opened.doc dice change isd e.0 h in
    record { new = g.doc; is = inl g.is; by = inl (e.1, (g.is, g.grows)) }
task_makes time task dice change isd (inr m) h =
    let g = merges_merge time m.access m.file m.names m.from m.same m.details (inputs_of task) task.opened.doc dice change
    (subst (λ (command : Command). (change_of time command (inputs_of task) task.opened.doc dice).answer ≡ Ok change) (sym m.is) h) in
    record { new = g.doc; is = g.is; by = inr (merges_so task.command m, g.merged) }

-- ---- one event

-- A document grew by a call: by what its task, which is no merge, makes of the copy's document.
pub record IsGrown (w : plans.World) (e : Event) (i : ℕ) (d : BareDoc) : Type 0 where
  pub c : CallSeen
  pub is : e ≡ call c
  pub task : Task
  pub is_task : IsTask c.words c.time c.world task
  pub no_merge : merges task.command ≡ false
  pub writes : may_write task.command ≡ true
  pub opened : task.opened.doc ≡ (w i).doc
  pub change : Change
  pub makes : (change_of_task c.time task c.world.dice).answer ≡ Ok change
  pub doc : change.doc ≡ Some d

-- so it is where growth is what an event did
abbrev pub GrownBy : plans.World → Event → Option DocEvent → Type 0
GrownBy w e None = Unit {0}
GrownBy w e (Some (growth i d)) = IsGrown w e i d
GrownBy w e (Some (joining i js d)) = Unit {0}
GrownBy w e (Some (overwriting i j)) = Unit {0}

-- What an event did, and what the files hold after it.
pub record IsStep (copies : Copies) (disks : Disks) (w : plans.World) (e : Event) : Type 0 where
  pub deed : Option DocEvent
  pub is : IsDeed e deed
  pub grown : GrownBy w e deed
  pub may : AreDocEvents w (done (deed ∷ []))
  pub hold : (k : ℕ) → k < copies.count → CopyHolds (disks_after copies disks e) (copies.copy k) (after_doc_events w (done (deed ∷ [])) k).doc

module _ (copies : Copies) (disks : Disks) (w : plans.World) (hold : (k : ℕ) → k < copies.count → CopyHolds disks (copies.copy k) (w k).doc) (c : CallSeen) (on : IsCallOn copies disks c) where
  -- the files of the copies on the disk, as the call finds them
  held : (i : ℕ) → i < copies.count → (copies.copy i).disk ≡ c.disk → IsHeld c.world.files (copies.copy i).name (copies.copy i).key (w i).doc
  held i less there =
      let h = hold i less in
      record {
        bytes = h.bytes;
        found = on.files i less there ∙ ap (λ (m : ℕ). get (disks m) (copies.copy i).name) (sym there) ∙ h.found;
        holds = h.holds;
      }

  -- what a task opens is what the copies hold
  module _ (task : Task) (is_task : IsTask c.words c.time c.world task) (writes : may_write task.command ≡ true) where
    opens : OpensCopies copies c task
    opens = on.opens task is_task writes

    databases : HoldDatabases (needs_of task.command) task.lines c.world.files (databases_in task)
    databases = opened_databases (origin_of task.command) (needs_of task.command) task.lines c.time c.world.files (databases_in task) opens.opens is_task.holds

    pub target_is : IsThat (copies.copy c.target).key (w c.target).doc task.opened
    target_is = copy_opened copies c w held (needs_of task.command).access task.lines.password (needs_of task.command).file c.target task.opened databases.target opens.target

    pub sources_are : task.sources ≡ docs_of w c.sources
    sources_are = copies_opened copies c w held (needs_of task.command).from (needs_of task.command).same task.lines.password (needs_of task.command).sources task.lines.sources c.sources
        task.sources databases.sources opens.sources

module _ (copies : Copies) (apart : AreApart copies) (disks : Disks) (w : plans.World) (doc : (j : ℕ) → IsDoc (w j).doc)
    (hold : (k : ℕ) → k < copies.count → CopyHolds disks (copies.copy k) (w k).doc) where
  -- ---- a call

  module _ (c : CallSeen) (on : IsCallOn copies disks c) where
    -- no file of a copy changed
    unchanged : IsDeed (call c) None → (files : FileMap) → c.now.store.files ≡ Some files
        → ((i : ℕ) → i < copies.count → (copies.copy i).disk ≡ c.disk → get files (copies.copy i).name ≡ get (disks c.disk) (copies.copy i).name) → IsStep copies disks w (call c)
    unchanged is files are same = record {
      deed = None;
      is = is;
      grown = tt;
      may = tt;
      hold = subst (λ (f : FileMap). (k : ℕ) → k < copies.count → CopyHolds (put_files disks c.disk f) (copies.copy k) (w k).doc)
          (sym (ap (λ (o : Option FileMap). unwrap_or o (disks c.disk)) are))
          (kept copies disks w hold c.disk files same);
    }

    -- no file changed
    nothing : IsDeed (call c) None → c.now.store.files ≡ c.before.store.files → IsStep copies disks w (call c)
    nothing is same = unchanged is c.world.files (same ∙ on.told.files) on.files

    module _ (status : (c.result ≡ 0) ⊎ ((c.result ≡ 9) ⊎ (c.result ≡ 10))) (wt : WritesTask c.words c.time c.world c.before c.now) (writes : may_write wt.task.command ≡ true) where
      abbrev task : Task
      task = wt.task

      abbrev opened_so : OpensCopies copies c wt.task
      opened_so = opens copies disks w hold c on wt.task wt.is_task writes

      that : IsThat (copies.copy c.target).key (w c.target).doc task.opened
      that = target_is copies disks w hold c on wt.task wt.is_task writes

      is_doc : IsDoc task.opened.doc
      is_doc = subst IsDoc (sym that.doc) (doc c.target)

      makes : Makes (w c.target).doc (docs_of w c.sources) task.command wt.change.doc
      makes = subst (λ (ds : List BareDoc). Makes (w c.target).doc ds task.command wt.change.doc) (sources_are copies disks w hold c on wt.task wt.is_task writes)
          (subst (λ (d : BareDoc). Makes d task.sources task.command wt.change.doc) that.doc
          (task_makes c.time task c.world.dice wt.change is_doc (kind_of task.command writes opened_so.opens) wt.makes))

      name_is : target_of task.command ≡ (copies.copy c.target).name
      name_is = opened_target task.command opened_so.opens ∙ sym opened_so.target.named

      -- the files of the task, with a database of this name
      abbrev at_name : List ℕ → Targets
      at_name name = record { database = name; attachment = exported_to task.command }

      held_there : IsHeld c.world.files (copies.copy c.target).name (key_in task.opened.sealing) (w c.target).doc
      held_there = subst (λ (k : Option (List ℕ)). IsHeld c.world.files (copies.copy c.target).name k (w c.target).doc) (sym that.under)
          (held copies disks w hold c on c.target opened_so.target.there opened_so.target.disk)

      after : IsWritten (copies.copy c.target).name (copies.copy c.target).key makes.new c.world.files c.now.store
      after = subst (λ (k : Option (List ℕ)). IsWritten (copies.copy c.target).name k makes.new c.world.files c.now.store) that.under
          (written (at_name (copies.copy c.target).name) task.opened.sealing (w c.target).doc makes.new c.world.files c.before.store c.now.store on.told.files held_there wt.change.doc wt.change.attachment
          (takes_nothing task.command writes) makes.is
          (subst (λ (n : List ℕ). ReadsBackSo (at_name n) task.opened.sealing wt.change.doc wt.change.attachment c.before.store c.now.store) name_is wt.reads_back))

      new_doc : IsDoc makes.new
      new_doc = held_is_doc (copies.copy c.target).key after.held.bytes makes.new after.held.holds

      -- the files after it, whatever the copy has learned
      holds_after : (learned : List Db) (k : ℕ) → k < copies.count
          → CopyHolds (disks_after copies disks (call c)) (copies.copy k) (put w c.target (record { doc = makes.new; learned = learned }) k).doc
      holds_after learned = subst (λ (f : FileMap). (k : ℕ) → k < copies.count → CopyHolds (put_files disks c.disk f) (copies.copy k) (put w c.target (record { doc = makes.new; learned = learned }) k).doc)
          (sym (ap (λ (o : Option FileMap). unwrap_or o (disks c.disk)) after.are))
          (changed copies disks w hold apart c.target opened_so.target.there c.disk opened_so.target.disk after.files (record { doc = makes.new; learned = learned }) after.held
          (λ k less there off. after.others (copies.copy k).name off ∙ on.files k less there))

      did_so : (x : DocEvent) → x ≡ made_by task.command c makes.new → Did c x
      did_so x is = record { status = status; command = task.command; is_command = wt.is_task.is_command; writes = writes; doc = makes.new; is = is }

      something : IsStep copies disks w (call c)
      something = elim makes.by [
        | inl g ↦ record {
          deed = Some (growth c.target makes.new);
          is = did_so (growth c.target makes.new) (sym (ap (λ b. if b then joining c.target c.sources makes.new else growth c.target makes.new) g.0));
          grown = record {
            c = c;
            is = refl;
            task = task;
            is_task = wt.is_task;
            no_merge = g.0;
            writes = writes;
            opened = that.doc;
            change = wt.change;
            makes = wt.makes;
            doc = g.1.0;
          };
          may = ((new_doc, g.1.1 new_doc), tt);
          hold = holds_after ((w c.target).learned ++ db_in makes.new ∷ []);
        }
        | inr m ↦ record {
          deed = Some (joining c.target c.sources makes.new);
          is = did_so (joining c.target c.sources makes.new) (sym (ap (λ b. if b then joining c.target c.sources makes.new else growth c.target makes.new) m.0));
          grown = tt;
          may = (m.1, tt);
          hold = holds_after ((w c.target).learned ++ learned_by w c.sources);
        }
      ]

    -- a file that an attachment is taken out into is none of the copies, since it was not there
    beside : IsDeed (call c) None → (wt : WritesTask c.words c.time c.world c.before c.now) (to : List ℕ) → exported_to wt.task.command ≡ Some to → IsStep copies disks w (call c)
    beside is wt to exports =
        let out = takes_out c.time wt.task.command wt.task.lines (inputs_of wt.task) wt.task.opened.doc (databases_in wt.task) c.world.files c.world.dice wt.change to exports wt.is_task.holds wt.makes in
        let stores : Stores (attachment_file (Some to) wt.change.attachment) c.before.store c.now.store =
        subst (λ (o : Option (List ℕ)). Stores (attachment_file o wt.change.attachment) c.before.store c.now.store) exports
        (subst (λ (d : Option BareDoc). ReadsBackSo (targets_of wt.task.command) wt.task.opened.sealing d wt.change.attachment c.before.store c.now.store) out.1 wt.reads_back) in
        let after = taken_out to wt.change.attachment c.world.files c.before.store c.now.store on.told.files stores in
        unchanged is after.files after.are (λ i less there.
        let here = held copies disks w hold c on i less there in
        after.others (copies.copy i).name (λ same. never here.bytes (sym out.0 ∙ ap (get c.world.files) (sym same) ∙ here.found))
        ∙ on.files i less there)

    -- ---- by words and status

    cut_off : (command : Command) → command_of c.words ≡ Ok command → (c.result ≡ 9) ⊎ (c.result ≡ 10) → c.result ≢ 0
        → (WritesTask c.words c.time c.world c.before c.now → IsStep copies disks w (call c)) → IsStep copies disks w (call c)
    cut_off command e status more go = elim (on.is_call.cut_writes (asks_command c.words command e) c.world on.told status) [
      | inl keeps ↦ nothing (inl more) keeps.files
      | inr wt ↦ go wt
    ]

    by_status : (command : Command) → command_of c.words ≡ Ok command
        → ((c.result ≡ 0) ⊎ ((c.result ≡ 9) ⊎ (c.result ≡ 10)) → WritesTask c.words c.time c.world c.before c.now → IsStep copies disks w (call c)) → IsStep copies disks w (call c)
    by_status command e go = elim (either c.result 0) [
      | inl zero ↦
          let a = on.is_call.authentic (asks_command c.words command e) c.world on.told zero in
          go (inl zero) (record { task = a.task; is_task = a.is_task; change = a.change; makes = a.makes; reads_back = a.reads_back })
      | inr more ↦
          elim (either c.result 9) [
            | inl nine ↦ cut_off command e (inl nine) more (go (inr (inl nine)))
            | inr not_nine ↦ elim (either c.result 10) [
              | inl ten ↦ cut_off command e (inr ten) more (go (inr (inr ten)))
              | inr not_ten ↦ nothing (inl more) (on.is_call.safe.files more not_nine not_ten).files
            ]
          ]
    ]

    writing : (command : Command) → command_of c.words ≡ Ok command → may_write command ≡ true → IsStep copies disks w (call c)
    writing command e writes = by_status command e (λ status wt. something status wt (sym (ap may_write_by wt.is_task.is_command) ∙ ap may_write_by e ∙ writes))

    -- words that may not write their database
    read_only : (command : Command) → command_of c.words ≡ Ok command → may_write command ≡ false → (to : Option (List ℕ)) → exported_to command ≡ to → IsStep copies disks w (call c)
    read_only command e m None none =
        nothing (inr (ap may_write_by e ∙ m)) (on.is_call.reads_only (ap may_store_by e ∙ (λ i. m i || is_some (none i)))).files
    read_only command e m (Some to) is =
        by_status command e (λ status wt. beside (inr (ap may_write_by e ∙ m)) wt to (sym (ap exported_by wt.is_task.is_command) ∙ ap exported_by e ∙ is))

    called : IsStep copies disks w (call c)
    called = by (command_of c.words) refl
      where
        chosen : (command : Command) → command_of c.words ≡ Ok command → (b : Bool) → may_write command ≡ b → IsStep copies disks w (call c)
        chosen command e true m = writing command e m
        chosen command e false m = read_only command e m (exported_to command) refl

        by : (r : Result Command Refusal) → command_of c.words ≡ r → IsStep copies disks w (call c)
        by (Err refusal) e = nothing (inr (ap may_write_by e)) (on.is_call.reads_only (ap may_store_by e)).files
        by (Ok command) e = chosen command e (may_write command) refl

  -- ---- a copy

  copied_over : (i j : ℕ) → IsEvent copies disks (copied i j) → IsStep copies disks w (copied i j)
  copied_over i j h =
      let from = hold j h.1 in
      let name = (copies.copy i).name in
      let old = disks (copies.copy i).disk in
      record {
        deed = Some (overwriting i j);
        is = refl;
        grown = tt;
        may = (tt, tt);
        hold = subst (λ (o : Option (List ℕ)). (k : ℕ) → k < copies.count → CopyHolds (put_files disks (copies.copy i).disk (with_bytes old name o)) (copies.copy k) (put w i (w j) k).doc) (sym from.found)
            (changed copies disks w hold apart i h.0 (copies.copy i).disk refl (insert old name from.bytes) (w j)
            (record {
              bytes = from.bytes;
              found = get-insert bytes_order.total old name from.bytes name ∙ ap (λ b. cond b (Some from.bytes) (get old name)) (id_itself name);
              holds = subst (λ (key : Option (List ℕ)). HoldsDoc key (w j).doc from.bytes) (sym h.2) from.holds;
            })
            (λ k less there off. get-insert bytes_order.total old name from.bytes (copies.copy k).name
            ∙ ap (λ b. cond b (Some from.bytes) (get old (copies.copy k).name)) (is_false (is_id (copies.copy k).name name) (λ q. off (same_id (copies.copy k).name name q)))));
      }

  pub one_step : (e : Event) → IsEvent copies disks e → IsStep copies disks w e
  one_step (call c) h = called c h
  one_step (copied i j) h = copied_over i j h
