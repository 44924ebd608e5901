-- How a task is carried out.
use Rattle.std.proofs.Common.{◌≡◌, ◌≤◌, arith, ℕ, List, refl, inl, sym, ◌∙◌, ap, subst, Bool, true, false, Option, Some, None, option_map, Result, Ok, Err}
use Rattle.std.specs.Borrow.{Bor}
use Rattle.std.specs.Option.{option_copied, unwrap_or}
use Rattle.std.specs.Prelude.{◌&&◌, ◌||◌, IfErr, IfOk, IfSome, OnErr, OnOk, is_some, not}
use Rattle.vault_model.specs.Tree.{BareDoc}
use Rattle.kdbx_frame.specs.Settings.{IsInOrder}
use Rattle.kdbx_frame.specs.declared.settings.Settings.{Settings}
use Rattle.cli_messages.specs.declared.answers.Refusal.{Refusal}
use Rattle.cli_messages.specs.declared.answers.Stop.{Stop}
use Rattle.cli_messages.specs.declared.answers.Stop.TheVariants.{Refused, FileFault, InputFault, NoMemory}
use Rattle.cli_messages.specs.Phases.{IsCommandStop, IsLeft, IsStreamStop, RefusesAskedStream, StreamAnswer, TellsStream, after_left, then_left, with_left}
use Rattle.kdbx_frame.specs.declared.sealings.Sealing.{Sealing}
use Rattle.cli_files.proofs.FileStops.{rose_before}
use Rattle.cli_lines.proofs.Inputs.{left_alone, left_so}
use Rattle.cli_sealing.specs.Sealing.{Seals, settings_for}
use Rattle.cli_needs.specs.declared.command.Command.{Command}
use Rattle.cli_needs.specs.declared.command.Command.TheVariants.{Ls, Show, History, Search, Add, Edit, Restore, ExportAttachment, ImportAttachment, RemoveAttachment, Move, Remove, MakeGroup, RemoveGroup, Merge, Import, Create, Export, EditFile, Info}
use Rattle.cli_needs.specs.Needs.{target_access}
use Rattle.cli_commands.specs.CliWriting.Writing.{IsSizeStop, IsWriteStop, KeepsDraft, KeepsFiles, NewFile, Store, Writes}
use Rattle.cli_commands.specs.declared.output.Output.{Output}
use Rattle.cli_commands.specs.Commands.{Change, Inputs, change_of, draws_change, may_write}
use Rattle.cli_commands.proofs.Changes.{none_changed}
use Rattle.call_run.specs.Endings.{Ending, Ends, EndsRefused, EndsSo, EndsWith, IsOfDice, IsOfSomeDice, IsRecoverable, IsUnrefused, LeavesDatabase, ReadsBack, ReadsBackSo, Targets, WritesNew, carried_out, change_of_task, ended_so, ended_with, inputs_of, opened_after, resealed, settings_in, targets_of}
use Rattle.cli_commands.specs.SeenChange.{doc_if, output_text}
use Rattle.cli_files.specs.Files.{Opened}
use Rattle.cli_sealing.proofs.Sealed.{in_order}
use Rattle.cli_files.specs.Tasks.{Task, draws}

-- ---- the file

-- A plain document was written.
pub plain_written : (result : Result (Unit {0}) Stop) (defined : Result NewFile Refusal) (before now : Store) (dice : Option (List ℕ)) (d : List ℕ)
    → TellsStream false dice d → Writes result defined before now → WritesNew result (with_left defined d) before now dice dice
plain_written (Ok u) defined before now dice d t h = (h, left_alone false dice d t)
plain_written (Err (Refused refusal)) defined before now dice d t h = (h, left_alone false dice d t)
plain_written (Err (FileFault name)) defined before now dice d t h = tt
plain_written (Err InputFault) defined before now dice d t h = tt
plain_written (Err NoMemory) defined before now dice d t h = tt

-- A sealed one was.
pub sealed_written : (result : Result (Unit {0}) Stop) (defined : StreamAnswer NewFile) (before now : Store) (dice dice' : Option (List ℕ)) (d : List ℕ)
    → dice ≡ Some d → Seals result defined before now dice' → WritesNew result defined before now dice dice'
sealed_written (Ok u) defined before now dice dice' d e h = (h.0, left_so dice dice' d defined.left e h.1)
sealed_written (Err (Refused refusal)) defined before now dice dice' d e h = (h.0, left_so dice dice' d defined.left e h.1)
sealed_written (Err (FileFault name)) defined before now dice dice' d e h = tt
sealed_written (Err InputFault) defined before now dice dice' d e h = tt
sealed_written (Err NoMemory) defined before now dice dice' d e h = tt

pub plain_stop : (result : Result (Unit {0}) Stop) (name : List ℕ) (faults faults' dice : ℕ) → IfErr result (IsWriteStop name faults faults')
    → IfErr result (IsCommandStop name faults faults' dice dice)
plain_stop (Ok u) name faults faults' dice h = tt
plain_stop (Err (Refused refusal)) name faults faults' dice h = h
plain_stop (Err (FileFault told)) name faults faults' dice h = h
plain_stop (Err InputFault) name faults faults' dice h = absurd h
plain_stop (Err NoMemory) name faults faults' dice h = tt

-- A plain document was written, and nothing was drawn.
pub plain_kept : (result : Result (Unit {0}) Stop) (faults faults' dice : ℕ) → OnOk result (faults' ≡ faults) → OnOk result ((faults' ≡ faults) × (dice ≡ dice))
plain_kept (Ok u) faults faults' dice h = (h, refl)
plain_kept (Err stop) faults faults' dice h = tt

pub keeps_draft : (result : Result (Unit {0}) Stop) (defined : Result NewFile Refusal) (before now : Store)
    → Writes result defined before now → OnErr result (KeepsFiles before now) → KeepsDraft before now
keeps_draft (Ok u) defined before now h k = inl h.has.draft_name
keeps_draft (Err stop) defined before now h k = k.draft

-- The file of an attachment is the one that the command writes.
pub named_so : (given : Option (Bor (List ℕ))) (to : Option (List ℕ)) (database : List ℕ) → option_map (λ to. to.now) given ≡ to
    → IfSome given (λ name. name.now ≡ unwrap_or to database)
named_so None to database e = tt
named_so (Some name) to database e = ap (λ (o : Option (List ℕ)). unwrap_or o database) e

-- ---- the dice

pub left_after : (old mid new : Option (List ℕ)) (l m : List ℕ) → IsLeft old mid l → IsLeft mid new m → IsLeft old new m
left_after None mid new l m h g = g ∙ ap (option_map (λ (x : List ℕ). m)) h
left_after (Some x) mid new l m h g = g ∙ ap (option_map (λ (x : List ℕ). m)) h

first_none : (a b : Bool) → (a || b) ≡ false → a ≡ false
first_none false b e = refl
first_none true b e = cc

second_none : (a b : Bool) → (a || b) ≡ false → b ≡ false
second_none false b e = e
second_none true b e = cc

-- A command that draws an id or a password draws.
pub no_change : (command : Command) → draws command ≡ false → draws_change command ≡ false
no_change (Ls access file group recursive flat ids) e = refl
no_change (Show access file entry clear all attachments names totp at) e = refl
no_change (History access file entry) e = refl
no_change (Search access file term) e = refl
no_change (Add access file entry asked) e = cc
no_change (Edit access file entry asked further) e = second_none (not access.plain) (is_some asked.generated) e
no_change (Restore access file entry version) e = refl
no_change (ExportAttachment access file entry name to) e = refl
no_change (ImportAttachment access file entry name source replaces) e = refl
no_change (RemoveAttachment access file entry name) e = refl
no_change (Move access file node group) e = refl
no_change (Remove access file entry) e = cc
no_change (MakeGroup access file group) e = cc
no_change (RemoveGroup access file group) e = cc
no_change (Merge access file names from same dry details) e = refl
no_change (Import access format source from file) e = refl
no_change (Create access file name cipher kdf) e = cc
no_change (Export access format file) e = refl
no_change (EditFile access file change) e = refl
no_change (Info access file) e = refl

pub tells_change : (command : Command) (dice : Option (List ℕ)) (d : List ℕ) → TellsStream (draws command) dice d → TellsStream (draws_change command) dice d
tells_change command (Some x) d t = t
tells_change command None d t = no_change command t

-- What is left is reported, where a file is sealed.
pub tells_after : (asked sealed : Bool) (old mid : Option (List ℕ)) (d l : List ℕ) → (asked ≡ false → sealed ≡ false) → TellsStream asked old d → IsLeft old mid l
    → TellsStream sealed mid l
tells_after asked sealed (Some x) mid d l none t h = subst (λ (m : Option (List ℕ)). TellsStream sealed m l) (sym h) refl
tells_after asked sealed None mid d l none t h = subst (λ (m : Option (List ℕ)). TellsStream sealed m l) (sym h) (none t)

-- ---- a task

-- What a command works with is that of its task.
pub inputs_are : (line otp : Option (List ℕ)) (fields : List (List ℕ)) (attached : Option (List ℕ)) (sources : List BareDoc) (settings : Option Settings) (passed : List (List ℕ))
    (task : Task) → line ≡ task.lines.more → otp ≡ task.lines.otp → fields ≡ task.lines.fields → attached ≡ task.attached → sources ≡ task.sources
    → settings ≡ settings_in task.opened.sealing → passed ≡ task.opened.passed_over
    → ◌≡◌ {A = Inputs} (record { line = line; otp = otp; fields = fields; attached = attached; sources = sources; settings = settings; passed_over = passed }) (inputs_of task)
inputs_are line otp fields attached sources settings passed task l o f a s e p =
    let given = inputs_of task in
    ap (λ (x : Option (List ℕ)). record { line = x; otp = otp; fields = fields; attached = attached; sources = sources; settings = settings; passed_over = passed }) l
    ∙ ap (λ (x : Option (List ℕ)). record { line = given.line; otp = x; fields = fields; attached = attached; sources = sources; settings = settings; passed_over = passed }) o
    ∙ ap (λ (x : List (List ℕ)). record { line = given.line; otp = given.otp; fields = x; attached = attached; sources = sources; settings = settings; passed_over = passed }) f
    ∙ ap (λ (x : Option (List ℕ)). record { line = given.line; otp = given.otp; fields = given.fields; attached = x; sources = sources; settings = settings; passed_over = passed }) a
    ∙ ap (λ (x : List BareDoc). record { line = given.line; otp = given.otp; fields = given.fields; attached = given.attached; sources = x; settings = settings; passed_over = passed }) s
    ∙ ap (λ (x : Option Settings). record { line = given.line; otp = given.otp; fields = given.fields; attached = given.attached; sources = given.sources; settings = x; passed_over = passed }) e
    ∙ ap (λ (x : List (List ℕ)). record { line = given.line; otp = given.otp; fields = given.fields; attached = given.attached; sources = given.sources; settings = given.settings; passed_over = x }) p

-- What is lent of an optional value is seen as it is.
pub lent_seen : {A B : Type 0} (seen : A → B) (lent : Option (Bor A)) (kept : Option A) → option_copied lent ≡ kept
    → option_map (λ one. seen one.now) lent ≡ option_map seen kept
lent_seen seen None kept e = ap (option_map seen) e
lent_seen seen (Some one) kept e = ap (option_map seen) e

module _ (time : ℕ) (task : Task) (input : Inputs) (dice : List ℕ) (is : input ≡ inputs_of task) where
  -- What the command makes, with what it works with.
  abbrev pub made : StreamAnswer Change
  made = change_of time task.command input task.opened.doc dice

  abbrev pub next : Change → List ℕ → StreamAnswer Ending
  next change left = ended_with (targets_of task.command) task.opened.sealing change left

  carried_is : carried_out time task dice ≡ then_left made next
  unfolding carried_out
  carried_is = ap (λ (x : Inputs). then_left (change_of time task.command x task.opened.doc dice) next) (sym is)

  -- What a task is carried out to whose command makes this change.
  carried_by : (change : Change) → made.answer ≡ Ok change → carried_out time task dice ≡ next change made.left
  carried_by change h = carried_is ∙ ap (λ (r : Result Change Refusal). then_left (with_left r made.left) next) h

  refused_by : (refusal : Refusal) → made.answer ≡ Err refusal → carried_out time task dice ≡ with_left (Err refusal) made.left
  refused_by refusal h = carried_is ∙ ap (λ (r : Result Change Refusal). then_left (with_left r made.left) next) h

  -- The change was made and the file written, if one is.
  pub ends_by : (change : Change) (before now : Store) (old mid new : Option (List ℕ)) → made.answer ≡ Ok change → IsLeft old mid made.left
      → EndsWith change.text (Ok tt) (next change made.left) before now mid new
      → EndsSo change.text (carried_out time task dice).answer before now × IsLeft old new (carried_out time task dice).left
  ends_by change before now old mid new h l w =
      subst (λ (t : StreamAnswer Ending). EndsSo change.text t.answer before now × IsLeft old new t.left) (sym (carried_by change h))
      (w.0, left_after old mid new made.left (next change made.left).left l w.1)

  -- The change was refused.
  pub change_refused : (stop : Stop) (before : Store) (stream stream' : Option (List ℕ)) → RefusesAskedStream stop stream stream' made
      → Ends (Err stop) (carried_out time task dice) before before stream stream'
  change_refused (Refused refusal) before stream stream' h =
      subst (λ (t : StreamAnswer Ending). EndsRefused refusal t.answer before before × IsLeft stream stream' t.left) (sym (refused_by refusal h.0))
      (record { is = refl; same = record { files = refl; draft_name = refl; draft_bytes = refl } }, h.1)
  change_refused (FileFault name) before stream stream' h = tt
  change_refused InputFault before stream stream' h = tt
  change_refused NoMemory before stream stream' h = tt

  -- The file was refused.
  pub file_refused : (stop : Stop) (change : Change) (before now : Store) (old mid new : Option (List ℕ)) → made.answer ≡ Ok change → IsLeft old mid made.left
      → EndsWith change.text (Err stop) (next change made.left) before now mid new
      → Ends (Err stop) (carried_out time task dice) before now old new
  file_refused (Refused refusal) change before now old mid new h l w =
      subst (λ (t : StreamAnswer Ending). EndsRefused refusal t.answer before now × IsLeft old new t.left) (sym (carried_by change h))
      (w.0, left_after old mid new made.left (next change made.left).left l w.1)
  file_refused (FileFault given) change before now old mid new h l w = tt
  file_refused InputFault change before now old mid new h l w = tt
  file_refused NoMemory change before now old mid new h l w = tt

  -- The change is the one of the task.
  pub made_so : (change : Change) → made.answer ≡ Ok change → (change_of_task time task dice).answer ≡ Ok change
  made_so change h = subst (λ (x : Inputs). (change_of time task.command x task.opened.doc dice).answer ≡ Ok change) is h

  -- What was printed and written is of the change.
  pub of_dice : (printed : List ℕ) (change : Change) (before now : Store) → printed ≡ change.text → made.answer ≡ Ok change
      → ReadsBack (targets_of task.command) task.opened.sealing change before now → IsOfDice time task dice printed before now
  of_dice printed change before now p h r = record {
    change = change;
    makes = made_so change h;
    text = p;
    reads_back = r;
  }

-- ---- a key that is cleared where nothing is written

-- A task whose database is sealed with this.
abbrev pub with_sealing : Option Sealing → Task → Task
with_sealing sealing task = record task { opened = record task.opened { sealing = sealing } }

-- What its command works with, with these settings.
abbrev pub inputs_with : Option Settings → Task → Inputs
inputs_with settings task = record (inputs_of task) { settings = settings }

-- A command that makes no document ends so whatever its database is sealed with.
ends_so : (targets : Targets) (answer : Result Change Refusal) (left : List ℕ) (one other : Option Sealing) → IfOk answer (λ change. change.doc ≡ None)
    → after_left answer left (λ change left. ended_with targets one change left) ≡ after_left answer left (λ change left. ended_with targets other change left)
ends_so targets (Ok change) left one other none =
    ap (λ (x : Option BareDoc). ended_so targets one change.text x change.attachment left) none
    ∙ sym (ap (λ (x : Option BareDoc). ended_so targets other change.text x change.attachment left) none)
ends_so targets (Err refusal) left one other none = refl

carried_kept : (writes : Bool) (time : ℕ) (task : Task) (one : Option Sealing) (dice : List ℕ) → may_write task.command ≡ writes → settings_in one ≡ settings_in task.opened.sealing
    → (writes ≡ true → one ≡ task.opened.sealing) → carried_out time (with_sealing one task) dice ≡ carried_out time task dice
unfolding carried_out
carried_kept true time task one dice w k same = ap (λ (s : Option Sealing). carried_out time (with_sealing s task) dice) (same refl)
carried_kept false time task one dice w k same =
    let made = change_of time task.command (inputs_of task) task.opened.doc dice in
    ap (λ (x : Option Settings). then_left (change_of time task.command (inputs_with x task) task.opened.doc dice)
    (λ change left. ended_with (targets_of task.command) one change left)) k
    ∙ ends_so (targets_of task.command) made.answer made.left one task.opened.sealing (none_changed time task.command (inputs_of task) task.opened.doc dice w)

reads_kept : (writes : Bool) (targets : Targets) (one other : Option Sealing) (change : Change) (before now : Store)
    → (writes ≡ true → one ≡ other) → (writes ≡ false → change.doc ≡ None) → ReadsBack targets one change before now → ReadsBack targets other change before now
reads_kept true targets one other change before now same none h = subst (λ (s : Option Sealing). ReadsBack targets s change before now) (same refl) h
reads_kept false targets one other change before now same none h =
    subst (λ (x : Option BareDoc). ReadsBackSo targets other x change.attachment before now) (sym (none refl))
    (subst (λ (x : Option BareDoc). ReadsBackSo targets one x change.attachment before now) (none refl) h)

-- A change that was made is so.
if_made : (answer : Result Change Refusal) (change : Change) → answer ≡ Ok change → IfOk answer (λ change. change.doc ≡ None) → change.doc ≡ None
if_made answer change e h = subst (λ (a : Result Change Refusal). IfOk a (λ change. change.doc ≡ None)) e h

module _ (time : ℕ) (task : Task) (one : Option Sealing) (kept : settings_in one ≡ settings_in task.opened.sealing)
    (same : may_write task.command ≡ true → one ≡ task.opened.sealing) where
  pub ends_kept : (d : List ℕ) (result : Result Output Stop) (before now : Store) (dice dice' : Option (List ℕ))
      → Ends result (carried_out time (with_sealing one task) d) before now dice dice' → Ends result (carried_out time task d) before now dice dice'
  ends_kept d result before now dice dice' h =
      subst (λ (a : StreamAnswer Ending). Ends result a before now dice dice') (carried_kept (may_write task.command) time task one d refl kept same) h

  of_dice_kept : (d printed : List ℕ) (before now : Store) → IsOfDice time (with_sealing one task) d printed before now → IsOfDice time task d printed before now
  of_dice_kept d printed before now h = record {
    change = h.change;
    makes = subst (λ (x : Option Settings). (change_of time task.command (inputs_with x task) task.opened.doc d).answer ≡ Ok h.change) kept h.makes;
    text = h.text;
    reads_back =
        reads_kept (may_write task.command) (targets_of task.command) one task.opened.sealing h.change before now same
        (λ w. if_made (change_of time task.command (inputs_with (settings_in one) task) task.opened.doc d).answer h.change h.makes
        (none_changed time task.command (inputs_with (settings_in one) task) task.opened.doc d w)) h.reads_back;
  }

  pub all_kept : (d : List ℕ) (result : Result Output Stop) (before now : Store)
      → IfOk result (λ output. IsOfDice time (with_sealing one task) d (output_text output) before now)
      → IfOk result (λ output. IsOfDice time task d (output_text output) before now)
  all_kept d (Ok output) before now h = of_dice_kept d (output_text output) before now h
  all_kept d (Err stop) before now h = tt

  pub some_kept : (result : Result Output Stop) (before now : Store)
      → IfOk result (λ output. IsOfSomeDice time (with_sealing one task) (output_text output) before now)
      → IfOk result (λ output. IsOfSomeDice time task (output_text output) before now)
  some_kept (Ok output) before now h = (h.0, of_dice_kept h.0 (output_text output) before now h.1)
  some_kept (Err stop) before now h = tt

-- ---- what is sealed

and_none : (written sealed : Bool) → sealed ≡ false → (written && sealed) ≡ false
and_none true sealed h = h
and_none false sealed h = refl

none_and : (written sealed : Bool) → written ≡ false → (written && sealed) ≡ false
none_and written sealed h = ap (λ (w : Bool). w && sealed) h

-- A command that draws nothing seals nothing.
pub undrawn_unsealed : (command : Command) (sealed written : Bool) → (may_write command ≡ false → written ≡ false) → sealed ≡ not (target_access command).plain
    → draws command ≡ false → (written && sealed) ≡ false
undrawn_unsealed (Ls access file group recursive flat ids) sealed written w h e = none_and written sealed (w refl)
undrawn_unsealed (Show access file entry clear all attachments names totp at) sealed written w h e = none_and written sealed (w refl)
undrawn_unsealed (History access file entry) sealed written w h e = none_and written sealed (w refl)
undrawn_unsealed (Search access file term) sealed written w h e = none_and written sealed (w refl)
undrawn_unsealed (Add access file entry asked) sealed written w h e = cc
undrawn_unsealed (Edit access file entry asked further) sealed written w h e =
    and_none written sealed (h ∙ first_none (not access.plain) (is_some asked.generated) e)
undrawn_unsealed (Restore access file entry version) sealed written w h e = and_none written sealed (h ∙ e)
undrawn_unsealed (ExportAttachment access file entry name to) sealed written w h e = none_and written sealed (w refl)
undrawn_unsealed (ImportAttachment access file entry name source replaces) sealed written w h e = and_none written sealed (h ∙ e)
undrawn_unsealed (RemoveAttachment access file entry name) sealed written w h e = and_none written sealed (h ∙ e)
undrawn_unsealed (Move access file node group) sealed written w h e = and_none written sealed (h ∙ e)
undrawn_unsealed (Remove access file entry) sealed written w h e = cc
undrawn_unsealed (MakeGroup access file group) sealed written w h e = cc
undrawn_unsealed (RemoveGroup access file group) sealed written w h e = cc
undrawn_unsealed (Merge access file names from same true details) sealed written w h e = none_and written sealed (w refl)
undrawn_unsealed (Merge access file names from same false details) sealed written w h e = and_none written sealed (h ∙ e)
undrawn_unsealed (Import access format source from file) sealed written w h e = and_none written sealed (h ∙ e)
undrawn_unsealed (Create access file name cipher kdf) sealed written w h e = cc
undrawn_unsealed (Export access format file) sealed written w h e = none_and written sealed (w refl)
undrawn_unsealed (EditFile access file change) sealed written w h e = and_none written sealed (h ∙ e)
undrawn_unsealed (Info access file) sealed written w h e = none_and written sealed (w refl)

some_settings : (sealing : Option Sealing) → is_some (settings_in sealing) ≡ is_some sealing
some_settings None = refl
some_settings (Some s) = refl

pub sealed_kept : (one other : Option Sealing) → settings_in one ≡ settings_in other → is_some one ≡ is_some other
sealed_kept one other k = sym (some_settings one) ∙ ap (λ (x : Option Settings). is_some x) k ∙ some_settings other

in_order_settings : (sealing : Option Sealing) → IfSome sealing (λ s. IsInOrder s.settings) → IfSome (settings_in sealing) IsInOrder
in_order_settings None h = h
in_order_settings (Some s) h = h

settings_in_order : (sealing : Option Sealing) → IfSome (settings_in sealing) IsInOrder → IfSome sealing (λ s. IsInOrder s.settings)
settings_in_order None h = h
settings_in_order (Some s) h = h

pub in_order_kept : (one other : Option Sealing) → settings_in one ≡ settings_in other → IfSome other (λ s. IsInOrder s.settings) → IfSome one (λ s. IsInOrder s.settings)
in_order_kept one other k h = settings_in_order one (subst (λ (x : Option Settings). IfSome x IsInOrder) (sym k) (in_order_settings other h))

-- ---- causes

pub stream_command : (stop : Stop) (name : List ℕ) (faults dice dice' : ℕ) → IsStreamStop dice dice' stop → IsCommandStop name faults faults dice dice' stop
stream_command (Refused refusal) name faults dice dice' h = h
stream_command (FileFault given) name faults dice dice' h = absurd h
stream_command InputFault name faults dice dice' h = h
stream_command NoMemory name faults dice dice' h = tt

pub write_command : (stop : Stop) (name : List ℕ) (faults faults' dice mid dice' : ℕ) → dice ≤ mid → IsCommandStop name faults faults' mid dice' stop
    → IsCommandStop name faults faults' dice dice' stop
write_command (Refused refusal) name faults faults' dice mid dice' le h = h
write_command (FileFault told) name faults faults' dice mid dice' le h = h
write_command InputFault name faults faults' dice mid dice' le h = rose_before dice mid dice' le h
write_command NoMemory name faults faults' dice mid dice' le h = tt

-- ---- what is left of the database

abbrev pub sealed_with : Settings → List ℕ → Sealing
sealed_with settings composite = record { settings = settings; composite = composite }

abbrev pub opened_with : BareDoc → Option Sealing → List (List ℕ) → Opened
opened_with doc sealing passed = record { doc = doc; sealing = sealing; passed_over = passed }

abbrev pub with_doc : BareDoc → Opened → Opened
with_doc doc opened = record opened { doc = doc }

-- What a file is sealed with has the settings that its document needs, and its key.
pub resealed_so : (old new : Sealing) (doc : BareDoc) → new.settings ≡ settings_for old.settings doc → new.composite ≡ old.composite → new ≡ resealed doc old
resealed_so old new doc settings composite =
    ap (λ (x : Settings). sealed_with x new.composite) settings ∙ ap (λ (x : List ℕ). sealed_with (settings_for old.settings doc) x) composite

pub unrefused_sized : (result : Result (Unit {0}) Stop) → IfErr result IsUnrefused → IfErr result IsSizeStop
unrefused_sized (Ok u) h = tt
unrefused_sized (Err (Refused refusal)) h = absurd h
unrefused_sized (Err (FileFault name)) h = tt
unrefused_sized (Err InputFault) h = tt
unrefused_sized (Err NoMemory) h = tt

-- A document that was written is the one of the database.
pub rewritten_so : (written : Bool) (old now : Opened) → written ≡ true → now.doc ≡ old.doc → now.passed_over ≡ old.passed_over
    → now.sealing ≡ option_map (resealed old.doc) old.sealing → now ≡ opened_after old (doc_if written old.doc)
rewritten_so true old now w doc passed sealing =
    ap (λ (x : BareDoc). opened_with x now.sealing now.passed_over) doc ∙ ap (λ (x : Option Sealing). opened_with old.doc x now.passed_over) sealing
    ∙ ap (λ (x : List (List ℕ)). opened_with old.doc (option_map (resealed old.doc) old.sealing) x) passed
rewritten_so false old now w doc passed sealing = cc

pub unwritten_so : (written : Bool) (old : Opened) → written ≡ false → old ≡ opened_after old (doc_if written old.doc)
unwritten_so false old w = refl
unwritten_so true old w = cc

-- A command that makes no document only reads it.
leaves_with : (reads written : Bool) (old now : Opened) (doc : BareDoc) → now ≡ opened_after (with_doc doc old) (doc_if written doc)
    → (reads ≡ true → doc ≡ old.doc) → (doc_if written doc ≡ None → reads ≡ true) → now ≡ opened_after old (doc_if written doc)
leaves_with reads true old now doc is kept none = is
leaves_with reads false old now doc is kept none = is ∙ ap (λ (x : BareDoc). with_doc x old) (kept (none refl))

pub leaves_so : (reads written : Bool) (answer : Result Change Refusal) (change : Change) (old now : Opened) (doc : BareDoc) → answer ≡ Ok change
    → change.doc ≡ doc_if written doc → now ≡ opened_after (with_doc doc old) (doc_if written doc) → (reads ≡ true → doc ≡ old.doc)
    → LeavesDatabase reads answer old now
leaves_so reads written answer change old now doc h made is kept =
    subst (λ (r : Result Change Refusal). LeavesDatabase reads r old now) (sym h)
    (subst (λ (d : Option BareDoc). (d ≡ None → reads ≡ true) → now ≡ opened_after old d) (sym made) (leaves_with reads written old now doc is kept))

-- After a refusal of size nothing goes on.
pub not_recoverable : (stop : Stop) → IsSizeStop stop → IsRecoverable stop → ⊥
not_recoverable (Refused refusal) size r = omega (arith, size, r)
not_recoverable (FileFault name) size r = r
not_recoverable InputFault size r = r
not_recoverable NoMemory size r = r

order_by : (doc : BareDoc) (sealing : Option Sealing) (passed : List (List ℕ)) (new : Option BareDoc) → IfSome sealing (λ s. IsInOrder s.settings)
    → IfSome (opened_after (opened_with doc sealing passed) new).sealing (λ s. IsInOrder s.settings)
order_by doc sealing passed None h = h
order_by doc None passed (Some new) h = tt
order_by doc (Some s) passed (Some new) h = in_order s.settings new h

-- What a file is sealed with stays in order.
pub order_after : (old now : Opened) (doc : Option BareDoc) → now ≡ opened_after old doc → IfSome old.sealing (λ s. IsInOrder s.settings)
    → IfSome now.sealing (λ s. IsInOrder s.settings)
order_after old now doc is h = subst (λ (o : Opened). IfSome o.sealing (λ s. IsInOrder s.settings)) (sym is) (order_by old.doc old.sealing old.passed_over doc h)

sealed_by : (doc : BareDoc) (sealing : Option Sealing) (passed : List (List ℕ)) (new : Option BareDoc)
    → is_some (opened_after (opened_with doc sealing passed) new).sealing ≡ is_some sealing
sealed_by doc sealing passed None = refl
sealed_by doc None passed (Some new) = refl
sealed_by doc (Some s) passed (Some new) = refl

pub sealed_after : (old now : Opened) (doc : Option BareDoc) → now ≡ opened_after old doc → is_some now.sealing ≡ is_some old.sealing
sealed_after old now doc is = ap (λ (o : Opened). is_some o.sealing) is ∙ sealed_by old.doc old.sealing old.passed_over doc
