-- A line of a session that was read and carried out does what is defined.
use Rattle.std.proofs.Common.{◌≡◌, ◌≤◌, ℕ, Bool, true, List, [], Option, Some, None, Result, Ok, Err, option_map, refl, sym, ap, subst, ◌∙◌}
use Rattle.std.specs.Prelude.{IfOk}
use Rattle.vault_model.specs.Db.{NodeId}
use Rattle.vault_model.specs.Tree.{BareDoc}
use Rattle.cli_messages.specs.declared.answers.Refusal.{Refusal}
use Rattle.cli_messages.specs.declared.answers.Stop.{Stop}
use Rattle.cli_messages.specs.declared.answers.Stop.TheVariants.{Refused, FileFault, InputFault, NoMemory}
use Rattle.cli_messages.specs.Messages.{status_of}
use Rattle.cli_messages.specs.Phases.{IsLeft, StreamAnswer, TellsStream, after_left, with_left}
use Rattle.cli_needs.specs.declared.command.Command.{Command}
use Rattle.cli_needs.specs.declared.command.Command.TheVariants.{Ls, Show, History, Search, Add, Edit, Restore, ExportAttachment, ImportAttachment, RemoveAttachment, Move, Remove, MakeGroup, RemoveGroup, Merge, Import, Create, Export, EditFile, Info}
use Rattle.cli_needs.specs.Needs.{generated_by}
use Rattle.cli_lines.specs.Lines.{LastLines}
use Rattle.cli_sessions.specs.SessionLines.{in_session}
use Rattle.call_run.specs.CliChanges.Entries.{AfterCommand}
use Rattle.call_run.specs.CliFiles.Files.{Opened}
use Rattle.call_run.specs.CliFiles.SeenOpened.{opened_seen}
use Rattle.call_run.specs.CliFiles.Tasks.{Task}
use Rattle.cli_writing.specs.Writing.{IsSame, Store}
use Rattle.call_run.specs.CliCommands.Commands.{Change, Inputs, change_by, change_with, drawn_id, makes_node, new_document, only_reads, password_of, with_password}
use Rattle.call_run.specs.Endings.{Ending, Ends, EndsSo, LeavesDatabase, carried_out, change_of_task, ended_with, inputs_of, targets_of}
use Rattle.session_core.specs.Reading.{LineRead, asks}
use Rattle.session_core.specs.SeenReading.{Reads, request_seen}
use Rattle.session_core.specs.declared.reading.LineRequest as memory
use Rattle.session_core.specs.declared.reading.LineRequest.TheVariants as asked
use Rattle.session_core.specs.Running.{DoesNothing, DoesPrint, Runs}
use Rattle.session_core.specs.Sessions.{SessionState, continues, ended, ends, line_after, line_by_change, line_by_file, line_by_request, line_task, refused_line, state_after, task_line}
use Rattle.session_core.specs.declared.running.Session.{Session}

-- ---- streams

pub tells_so : (asked : Bool) (stream : Option (List ℕ)) (d : List ℕ) → stream ≡ Some d → TellsStream asked stream d
tells_so asked stream d e = subst (λ (s : Option (List ℕ)). TellsStream asked s d) (sym e) refl

left_some : (old new : Option (List ℕ)) (d l : List ℕ) → old ≡ Some d → IsLeft old new l → new ≡ Some l
left_some old new d l e h = h ∙ ap (option_map (λ (x : List ℕ). l)) e

same : (store : Store) → IsSame store store
same store = record { files = refl; draft_name = refl; draft_bytes = refl }

-- ---- a line that was read

-- Reading stopped.
pub read_stopped : (stop : Stop) (time : ℕ) (state : SessionState) (read : LineRead) (before : Store) (session : Session) (left stream : Option (List ℕ))
    → Reads (Err stop) session.number left read → opened_seen session.opened ≡ state.opened → stream ≡ Some state.dice
    → Runs (Err stop) (line_after time state read) before before session left stream
read_stopped (Refused refusal) time state read before session left stream h o d = record {
  state = state_after state read;
  is = ap (line_by_request time (state_after state read)) h.0;
  same = same before;
  at = record { number = h.1; input = h.2; dice = d };
  opened = λ low. o;
}
read_stopped (FileFault name) time state read before session left stream h o d = tt
read_stopped InputFault time state read before session left stream h o d = tt
read_stopped NoMemory time state read before session left stream h o d = tt

-- The session ends.
pub read_ended : (request : memory.LineRequest) (time : ℕ) (state : SessionState) (read : LineRead) (before : Store) (session : Session) (left stream : Option (List ℕ))
    → request ≡ asked.Ends → Reads (Ok request) session.number left read → opened_seen session.opened ≡ state.opened → stream ≡ Some state.dice
    → DoesNothing (λ state. ends (ended 0 [] state)) (line_after time state read) before before session left stream
read_ended request time state read before session left stream e h o d = record {
  state = state_after state read;
  is = ap (line_by_request time (state_after state read)) (h.0 ∙ ap (λ (r : memory.LineRequest). Ok (request_seen r)) e);
  same = same before;
  at = record { number = h.1; input = h.2; dice = d };
  opened = o;
}

-- ---- commands that lines may have

-- A command that only reads its document.
reads_it : (r : Result Change Refusal) → IfOk r (λ change. change.doc ≡ None → ◌≡◌ {A = Bool} true true)
reads_it (Ok change) = λ none. refl
reads_it (Err refusal) = tt

-- What changes a document makes one.
makes_one : (r : Result AfterCommand Refusal) (Q : Type 0) → IfOk (new_document r) (λ change. change.doc ≡ None → Q)
makes_one (Ok after) Q = λ e. cc
makes_one (Err refusal) Q = tt

-- A command of a line that makes no document only reads it.
with_ok : (time : ℕ) (command : Command) (input : Inputs) (id : NodeId) (doc : BareDoc) → in_session command ≡ true
    → IfOk (change_with time command input id doc) (λ change. change.doc ≡ None → only_reads command ≡ true)
with_ok time (Ls access file group recursive flat ids) input id doc s = reads_it _
with_ok time (Show access file entry clear all attachments names totp at) input id doc s = reads_it _
with_ok time (History access file entry) input id doc s = cc
with_ok time (Search access file term) input id doc s = reads_it _
with_ok time (Add access file entry asked) input id doc s = makes_one _ _
with_ok time (Edit access file entry asked further) input id doc s = makes_one _ _
with_ok time (Restore access file entry version) input id doc s = makes_one _ _
with_ok time (ExportAttachment access file entry name to) input id doc s = cc
with_ok time (ImportAttachment access file entry name source replaces) input id doc s = cc
with_ok time (RemoveAttachment access file entry name) input id doc s = cc
with_ok time (Move access file node group) input id doc s = makes_one _ _
with_ok time (Remove access file entry) input id doc s = makes_one _ _
with_ok time (MakeGroup access file group) input id doc s = makes_one _ _
with_ok time (RemoveGroup access file group) input id doc s = makes_one _ _
with_ok time (Merge access file names from asked dry details) input id doc s = cc
with_ok time (Import access format source from file) input id doc s = cc
with_ok time (Create access file name cipher kdf) input id doc s = cc
with_ok time (Export access format file) input id doc s = cc
with_ok time (EditFile access file change) input id doc s = cc
with_ok time (Info access file) input id doc s = λ none. refl

-- What holds of what each later phase gives holds in the end.
ok_after : {A B : Type 0} (answer : Result A Refusal) (left : List ℕ) (next : A → List ℕ → StreamAnswer B) (P : B → Type 0)
    → ((a : A) (l : List ℕ) → IfOk (next a l).answer P) → IfOk (after_left answer left next).answer P
ok_after (Ok a) left next P h = h a left
ok_after (Err refusal) left next P h = tt

session_writes : (time : ℕ) (task : Task) (dice : List ℕ) → in_session task.command ≡ true
    → IfOk (change_of_task time task dice).answer (λ change. change.doc ≡ None → only_reads task.command ≡ true)
session_writes time task dice s =
    ok_after {A = NodeId} {B = Change} (drawn_id (makes_node task.command task.opened.doc) dice).answer (drawn_id (makes_node task.command task.opened.doc) dice).left
    (λ id. change_by time task.command (inputs_of task) id task.opened.doc) (λ change. change.doc ≡ None → only_reads task.command ≡ true)
    (λ id left. ok_after {A = Option (List ℕ)} {B = Change} (password_of (generated_by task.command) (inputs_of task).line left).answer
    (password_of (generated_by task.command) (inputs_of task).line left).left
    (λ password left'. with_left (change_with time task.command (with_password password (inputs_of task)) id task.opened.doc) left')
    (λ change. change.doc ≡ None → only_reads task.command ≡ true)
    (λ password left'. with_ok time task.command (with_password password (inputs_of task)) id task.opened.doc s))

-- ---- a command that was carried out

module _ (state : SessionState) (task : Task) where
  abbrev next : Change → List ℕ → StreamAnswer Ending
  next change left = ended_with (targets_of task.command) task.opened.sealing change left

  prints_by : (change : Result Change Refusal) (drawn : List ℕ) (reads : Bool) (ending : Ending) (now : Opened)
      → (after_left change drawn next).answer ≡ Ok ending → LeavesDatabase reads change state.opened now
      → IfOk change (λ change. change.doc ≡ None → reads ≡ true)
      → line_by_change state task change drawn
      ≡ continues ending.text [] ending.file (record state { opened = now; dice = (after_left change drawn next).left })
  prints_by (Ok change) drawn reads ending now h leaves none =
      ap (λ (r : Result Ending Refusal). line_by_file state change r (next change drawn).left) h
      ∙ ap (λ (o : Opened). continues ending.text [] ending.file (record state { opened = o; dice = (next change drawn).left })) (sym (leaves none))
  prints_by (Err refusal) drawn reads ending now h leaves none = cc

  refused_by : (change : Result Change Refusal) (drawn : List ℕ) (refusal : Refusal) → (after_left change drawn next).answer ≡ Err refusal
      → line_by_change state task change drawn ≡ refused_line refusal (record state { dice = (after_left change drawn next).left })
  refused_by (Ok change) drawn refusal h = ap (λ (r : Result Ending Refusal). line_by_file state change r (next change drawn).left) h
  refused_by (Err given) drawn refusal h =
      let e : given ≡ refusal = cc in ap (λ (r : Refusal). refused_line r (record state { dice = drawn })) e

module _ (time : ℕ) (state : SessionState) (read : LineRead) (command : Command) (last : LastLines) (is : read.answer ≡ Ok (asks command last)) where
  abbrev task : Task
  task = line_task state.opened command last

  line_is : line_after time state read ≡ task_line time (state_after state read) task
  line_is = ap (line_by_request time (state_after state read)) is

  -- What a line prints.
  asked_prints : (reads : Bool) (text : List ℕ) (before now : Store) (session : Session) (left stream stream' : Option (List ℕ))
      → session.number ≡ read.number → left ≡ Some read.left → stream ≡ Some state.dice
      → EndsSo text (carried_out time task state.dice).answer before now → IsLeft stream stream' (carried_out time task state.dice).left
      → LeavesDatabase reads (change_of_task time task state.dice).answer state.opened (opened_seen session.opened)
      → in_session command ≡ true → reads ≡ only_reads command
      → DoesPrint text (line_after time state read) before now session left stream'
  unfolding carried_out
  asked_prints reads text before now session left stream stream' n l d done rest leaves fits r =
      let made = change_of_task time task state.dice in
      let writes = subst (λ (b : Bool). IfOk made.answer (λ change. change.doc ≡ None → b ≡ true)) (sym r) (session_writes time task state.dice fits) in
      record {
        file = done.ending.file;
        state = record (state_after state read) { opened = opened_seen session.opened; dice = (carried_out time task state.dice).left };
        is = line_is ∙ prints_by (state_after state read) task made.answer made.left reads done.ending (opened_seen session.opened) done.is leaves writes
            ∙ ap (λ (t : List ℕ). continues t [] done.ending.file (record (state_after state read) { opened = opened_seen session.opened; dice = (carried_out time task state.dice).left })) (sym done.text);
        stores = done.store;
        at = record { number = n; input = l; dice = left_some stream stream' state.dice _ d rest };
        opened = refl;
      }

  -- Why a line stopped.
  asked_stopped : (stop : Stop) (before now : Store) (session : Session) (left stream stream' : Option (List ℕ))
      → session.number ≡ read.number → left ≡ Some read.left → stream ≡ Some state.dice
      → Ends (Err stop) (carried_out time task state.dice) before now stream stream'
      → ((refusal : Refusal) → stop ≡ Refused refusal → status_of refusal.reason ≤ 2 → opened_seen session.opened ≡ state.opened)
      → Runs (Err stop) (line_after time state read) before now session left stream'
  unfolding carried_out
  asked_stopped (Refused refusal) before now session left stream stream' n l d done known =
      let made = change_of_task time task state.dice in
      record {
        state = record (state_after state read) { dice = (carried_out time task state.dice).left };
        is = line_is ∙ refused_by (state_after state read) task made.answer made.left refusal done.0.is;
        same = done.0.same;
        at = record { number = n; input = l; dice = left_some stream stream' state.dice _ d done.1 };
        opened = known refusal refl;
      }
  asked_stopped (FileFault name) before now session left stream stream' n l d done known = tt
  asked_stopped InputFault before now session left stream stream' n l d done known = tt
  asked_stopped NoMemory before now session left stream stream' n l d done known = tt

  -- The same of a task that is the one of the line.
  pub prints_for : (t : Task) (reads : Bool) (text : List ℕ) (before now : Store) (session : Session) (left stream stream' : Option (List ℕ)) → t ≡ task
      → session.number ≡ read.number → left ≡ Some read.left → stream ≡ Some state.dice
      → EndsSo text (carried_out time t state.dice).answer before now → IsLeft stream stream' (carried_out time t state.dice).left
      → LeavesDatabase reads (change_of_task time t state.dice).answer state.opened (opened_seen session.opened)
      → in_session command ≡ true → reads ≡ only_reads command
      → DoesPrint text (line_after time state read) before now session left stream'
  prints_for t reads text before now session left stream stream' e n l d done rest leaves fits r =
      asked_prints reads text before now session left stream stream' n l d
      (subst (λ (t : Task). EndsSo text (carried_out time t state.dice).answer before now) e done)
      (subst (λ (t : Task). IsLeft stream stream' (carried_out time t state.dice).left) e rest)
      (subst (λ (t : Task). LeavesDatabase reads (change_of_task time t state.dice).answer state.opened (opened_seen session.opened)) e leaves) fits r

  pub stopped_for : (t : Task) (stop : Stop) (before now : Store) (session : Session) (left stream stream' : Option (List ℕ)) → t ≡ task
      → session.number ≡ read.number → left ≡ Some read.left → stream ≡ Some state.dice
      → Ends (Err stop) (carried_out time t state.dice) before now stream stream'
      → ((refusal : Refusal) → stop ≡ Refused refusal → status_of refusal.reason ≤ 2 → opened_seen session.opened ≡ state.opened)
      → Runs (Err stop) (line_after time state read) before now session left stream'
  stopped_for t stop before now session left stream stream' e n l d done known =
      asked_stopped stop before now session left stream stream' n l d
      (subst (λ (t : Task). Ends (Err stop) (carried_out time t state.dice) before now stream stream') e done) known
