-- What a call answers, from its task.
use Rattle.std.proofs.Common.{◌≡◌, ◌≤◌, ℕ, List, [], ◌∷◌, ◌++◌, refl, inl, inr, sym, ◌∙◌, ap, subst, arith, Bool, false, Option, Some, None, Result, Ok, Err}
use Rattle.std.specs.Prelude.{Contains, IfErr, IfOk, OnErr, OnOk}
use Rattle.std.proofs.lemmas.List.Elements.{Contains-append_left, Contains-append_right}
use Rattle.outside_core.specs.Counts.{Increased}
use Rattle.cli_messages.specs.declared.answers.Refusal.{Refusal}
use Rattle.cli_messages.specs.declared.answers.Stop.{Stop}
use Rattle.cli_messages.specs.declared.answers.Stop.TheVariants.{Refused, FileFault, InputFault, NoMemory}
use Rattle.cli_messages.specs.Phases.{IsCaused, IsCommandStop, IsEarlyStop, IsLeft, Leaves, Stops, StreamAnswer, TellsStream, then_left, with_left}
use Rattle.cli_files.proofs.FileStops.{rose_before}
use Rattle.cli_lines.proofs.Inputs.{left_alone}
use Rattle.cli_needs.specs.Needs.{Needs, database_files, file_written, files_named, files_of, key_files, needs_of, new_key_files, source_files}
use Rattle.cli_needs.specs.declared.command.Access.{Access}
use Rattle.cli_needs.specs.declared.command.FileChange.{FileChange}
use Rattle.cli_needs.specs.declared.command.Command.TheVariants.{Ls, Show, History, Search, Add, Edit, Restore, ExportAttachment, ImportAttachment, RemoveAttachment, Move, Remove, MakeGroup, RemoveGroup, Merge, Import, Create, Export, EditFile, Info}
use Rattle.cli_standalone.specs.declared.standalone.Standalone.{Standalone}
use Rattle.cli_parse.specs.Words.{command_of}
use Rattle.cli_standalone.specs.Standalone.{standalone_of}
use Rattle.cli_needs.specs.declared.command.Command.{Command}
use Rattle.cli_writing.specs.Writing.{IsSame, KeepsDraft, KeepsFiles, Store}
use Rattle.session_run.specs.CliCommands.declared.output.Output.{Output}
use Rattle.cli_files.specs.declared.task.Task as memory
use Rattle.session_run.specs.CliCommands.Commands.{may_store}
use Rattle.cli_files.proofs.HeldKeys.{in_turn}
use Rattle.session_run.specs.CallRun.Endings.{Ending, Ends, EndsRefused, IsOfDice, IsOfSomeDice, carried_out}
use Rattle.cli_pages.specs.Pages.{page_of}
use Rattle.keepass_call.specs.Outcome.{AsksCommand, IsOfSomeFile, IsOfTask, World, answer_of, command_answer, draws_with, may_store_by, page_or_answer, standalone_or_command, truth}
use Rattle.keepass_call.proofs.Pages.{asks_command}
use Rattle.session_run.specs.CliCommands.SeenChange.{output_text}
use Rattle.cli_files.specs.Tasks.{Task, draws, draws_by}
use Rattle.call_input.specs.Reading.{HasSomeFile, task_of}

pub same_store : (before mid : Store) → IsSame before mid → mid ≡ before
same_store before mid h =
    ap (λ (f : _). record { files = f; draft_name = mid.draft_name; draft_bytes = mid.draft_bytes }) h.files
    ∙ ap (λ (n : Option (List ℕ)). record { files = before.files; draft_name = n; draft_bytes = mid.draft_bytes }) h.draft_name
    ∙ ap (λ (b : List ℕ). record { files = before.files; draft_name = before.draft_name; draft_bytes = b }) h.draft_bytes

-- What words give as a command whose task is this.
command_is : (words : List (List ℕ)) (time : ℕ) (world : World) (task : Task) → task_of words time world.input world.files ≡ Ok task
    → command_answer words time world ≡ carried_out time task world.dice
unfolding command_answer
command_is words time world task h = ap (λ (r : Result Task Refusal). then_left (with_left r world.dice) (carried_out time)) h

command_refused : (words : List (List ℕ)) (time : ℕ) (world : World) (refusal : Refusal) → task_of words time world.input world.files ≡ Err refusal
    → command_answer words time world ≡ with_left (Err refusal) world.dice
unfolding command_answer
command_refused words time world refusal h = ap (λ (r : Result Task Refusal). then_left (with_left r world.dice) (carried_out time)) h

-- Words that ask for no page give what they give as a command, with a database or without one.
pub unpaged : (words : List (List ℕ)) (time : ℕ) (world : World) → page_of words ≡ None
    → answer_of words time world ≡ standalone_or_command (standalone_of words) words time world
unpaged words time world none = ap (λ (p : Option (List ℕ)). page_or_answer p words time world) none

-- Words that are to be a command give what they give as one.
pub as_command : (words : List (List ℕ)) (time : ℕ) (world : World) → AsksCommand words → answer_of words time world ≡ command_answer words time world
as_command words time world none =
    unpaged words time world none.no_page ∙ ap (λ (p : Option Standalone). standalone_or_command p words time world) none.no_standalone

pub ends_as : (words : List (List ℕ)) (time : ℕ) (world : World) (result : Result Output Stop) (before now : Store) (dice dice' : Option (List ℕ)) → page_of words ≡ None
    → Ends result (standalone_or_command (standalone_of words) words time world) before now dice dice' → Ends result (answer_of words time world) before now dice dice'
ends_as words time world result before now dice dice' none h =
    subst (λ (a : StreamAnswer Ending). Ends result a before now dice dice') (sym (unpaged words time world none)) h

task_asks : (words : List (List ℕ)) (time : ℕ) (world : World) (task : Task) → task_of words time world.input world.files ≡ Ok task → AsksCommand words
unfolding task_of
task_asks words time world task h = let c = in_turn (command_of words) _ task h in asks_command words c.0 c.1.0

-- What words result in whose task is this.
pub answer_is : (words : List (List ℕ)) (time : ℕ) (world : World) (task : Task) → task_of words time world.input world.files ≡ Ok task
    → answer_of words time world ≡ carried_out time task world.dice
answer_is words time world task h = as_command words time world (task_asks words time world task h) ∙ command_is words time world task h

-- The task was carried out, or stopped.
pub comes_to : (words : List (List ℕ)) (time : ℕ) (world : World) (task : Task) (result : Result Output Stop) (before mid now : Store) (dice dice' : Option (List ℕ))
    → task_of words time world.input world.files ≡ Ok task → IsSame before mid → Ends result (carried_out time task world.dice) mid now dice dice'
    → Ends result (command_answer words time world) before now dice dice'
comes_to words time world task result before mid now dice dice' t s h =
    subst (λ (a : StreamAnswer Ending). Ends result a before now dice dice') (sym (command_is words time world task t))
    (subst (λ (m : Store). Ends result (carried_out time task world.dice) m now dice dice') (same_store before mid s) h)

-- There is no task.
pub stops_early : (stop : Stop) (words : List (List ℕ)) (time : ℕ) (world : World) (asked : Bool) (before now : Store) (dice : Option (List ℕ))
    → Stops stop (task_of words time world.input world.files) → IsSame before now → TellsStream asked dice world.dice
    → Ends (Err stop) (command_answer words time world) before now dice dice
stops_early (Refused refusal) words time world asked before now dice h s t =
    subst (λ (a : StreamAnswer Ending). EndsRefused refusal a.answer before now × IsLeft dice dice a.left) (sym (command_refused words time world refusal h))
    (record { is = refl; same = s }, left_alone asked dice world.dice t)
stops_early (FileFault name) words time world asked before now dice h s t = tt
stops_early InputFault words time world asked before now dice h s t = tt
stops_early NoMemory words time world asked before now dice h s t = tt

-- Words that are a command are not refused.
pub not_refused : (words : Result Command Refusal) (command : Command) (refusal : Refusal) → words ≡ Ok command → words ≡ Err refusal → ⊥
not_refused words command refusal is wrong = cc (sym wrong ∙ is)

-- All was truthful that was, where nothing was asked.
pub truth_kept : (files files' input input' dice : Bool) → (files' ≡ files) × (input' ≡ input) → truth files' input' dice ≡ truth files input dice
truth_kept files files' input input' dice same = ap (λ (t : Bool). truth t input' dice) same.0 ∙ ap (λ (t : Bool). truth files t dice) same.1

-- ---- the store

pub kept_after : (result : Result Output Stop) (before mid now : Store) → IsSame before mid → OnErr result (KeepsFiles mid now) → OnErr result (KeepsFiles before now)
kept_after result before mid now s h = subst (λ (m : Store). OnErr result (KeepsFiles m now)) (same_store before mid s) h

pub draft_after : (before mid now : Store) → IsSame before mid → KeepsDraft mid now → KeepsDraft before now
draft_after before mid now s h = subst (λ (m : Store). KeepsDraft m now) (same_store before mid s) h

-- ---- the dice

-- The words draw where their command does.
pub draws_so : (words : Result Command Refusal) (command : Command) (dice : Option (List ℕ)) (d : List ℕ) → words ≡ Ok command
    → TellsStream (draws_by words) dice d → TellsStream (draws command) dice d
draws_so words command dice d is t = subst (λ (w : Result Command Refusal). TellsStream (draws_by w) dice d) is t

pub unwritten_after : (words : Result Command Refusal) (command : Command) (before mid now : Store) → words ≡ Ok command
    → IsSame before mid → (may_store command ≡ false → IsSame mid now) → may_store_by words ≡ false → IsSame before now
unwritten_after words command before mid now is s h e =
    subst (λ (m : Store). IsSame m now) (same_store before mid s) (h (sym (ap may_store_by is) ∙ e))

pub undrawn_after : (words : Result Command Refusal) (command : Command) (dice dice' : Option (List ℕ)) → words ≡ Ok command
    → (draws command ≡ false → dice' ≡ dice) → draws_by words ≡ false → dice' ≡ dice
undrawn_after words command dice dice' is h e = h (sym (ap draws_by is) ∙ e)

-- ---- what is left of the input

pub ends_left : (result : Result Output Stop) (before now : Option (List ℕ)) (left : List ℕ) → IsLeft before now left → Leaves result before now left
ends_left (Ok x) before now left h = h
ends_left (Err (Refused refusal)) before now left h = h
ends_left (Err (FileFault name)) before now left h = h
ends_left (Err InputFault) before now left h = tt
ends_left (Err NoMemory) before now left h = tt

pub stop_leaves : (stop : Stop) (before now : Option (List ℕ)) (left : List ℕ) → Leaves {X = memory.Task} (Err stop) before now left
    → Leaves {X = Output} (Err stop) before now left
stop_leaves (Refused refusal) before now left h = h
stop_leaves (FileFault name) before now left h = h
stop_leaves InputFault before now left h = tt
stop_leaves NoMemory before now left h = tt

-- ---- what was printed and written

pub of_task : (words : List (List ℕ)) (time : ℕ) (world : World) (task : Task) (result : Result Output Stop) (before mid now : Store)
    → task_of words time world.input world.files ≡ Ok task → IsSame before mid
    → IfOk result (λ output. IsOfDice time task world.dice (output_text output) mid now)
    → IfOk result (λ output. IsOfTask words time world (output_text output) before now)
of_task words time world task (Ok output) before mid now t s h =
    record { task = task; gives = t; of_dice = subst (λ (m : Store). IsOfDice time task world.dice (output_text output) m now) (same_store before mid s) h }
of_task words time world task (Err stop) before mid now t s h = tt

pub prints_some : (words : List (List ℕ)) (time : ℕ) (task : Task) (result : Result Output Stop) (before mid now : Store) → HasSomeFile words time task → IsSame before mid
    → IfOk result (λ output. IsOfSomeDice time task (output_text output) mid now) → IfOk result (λ output. IsOfSomeFile words time (output_text output) before now)
prints_some words time task (Ok output) before mid now f s h =
    record { task = task; has_file = f; of_dice = subst (λ (m : Store). IsOfSomeDice time task (output_text output) m now) (same_store before mid s) h }
prints_some words time task (Err stop) before mid now f s h = tt

-- ---- words that are to be a command

pub command_told : (standalone : Option Standalone) (words : List (List ℕ)) (time : ℕ) (world : World) (result : Result Output Stop) (before now : Store) (dice dice' : Option (List ℕ))
    → standalone ≡ None → Ends result (command_answer words time world) before now dice dice' → Ends result (standalone_or_command standalone words time world) before now dice dice'
command_told standalone words time world result before now dice dice' none h =
    subst (λ (p : Option Standalone). Ends result (standalone_or_command p words time world) before now dice dice') (sym none) h

pub command_draws : (standalone : Option Standalone) (words : Result Command Refusal) (dice : Option (List ℕ)) (d : List ℕ) → standalone ≡ None
    → TellsStream (draws_with standalone words) dice d → TellsStream (draws_by words) dice d
command_draws standalone words dice d none t = subst (λ (p : Option Standalone). TellsStream (draws_with p words) dice d) none t

pub command_undrawn : (standalone : Option Standalone) (words : Result Command Refusal) → standalone ≡ None → draws_with standalone words ≡ false → draws_by words ≡ false
command_undrawn standalone words none h = subst (λ (p : Option Standalone). draws_with p words ≡ false) none h

-- ---- causes

pub early_caused : (stop : Stop) (names : List (List ℕ)) (f f' a a' i i' d : ℕ) → IsEarlyStop names f f' a a' i i' stop → IsCaused names f f' a a' i i' d d stop
early_caused (Refused refusal) names f f' a a' i i' d h = h
early_caused (FileFault name) names f f' a a' i i' d h = h
early_caused InputFault names f f' a a' i i' d h = inl h
early_caused NoMemory names f f' a a' i i' d h = tt

-- The file of the database is among those of a command.
opened_named : (needs : Needs) (name : List ℕ) → needs.file ≡ name → Contains (files_of needs) name
opened_named needs name is =
    Contains-append_left (database_files needs.access needs.file) (source_files needs.from needs.sources) name
    (Contains-append_right (key_files needs.access.key_file) (needs.file ∷ []) name (0, omega arith, is))

-- So is the file of a database that is changed.
changed_named : (access : Access) (file : List ℕ) (change : FileChange) (name : List ℕ) → file ≡ name → Contains (database_files access file ++ new_key_files change.key_file) name
changed_named access file change name is =
    Contains-append_left (database_files access file) (new_key_files change.key_file) name
    (Contains-append_right (key_files access.key_file) (file ∷ []) name (0, omega arith, is))

-- So is the file that a command shows or writes, or that it takes an attachment out into.
written_named : (command : Command) (name : List ℕ) → file_written command ≡ name → Contains (files_named (Ok command)) name
written_named (Ls access file group recursive flat ids) name is = opened_named (needs_of (Ls access file group recursive flat ids)) name is
written_named (Show access file entry clear all attachments names totp at) name is = opened_named (needs_of (Show access file entry clear all attachments names totp at)) name is
written_named (History access file entry) name is = opened_named (needs_of (History access file entry)) name is
written_named (Search access file term) name is = opened_named (needs_of (Search access file term)) name is
written_named (Add access file entry asked) name is = opened_named (needs_of (Add access file entry asked)) name is
written_named (Edit access file entry asked further) name is = opened_named (needs_of (Edit access file entry asked further)) name is
written_named (Restore access file entry version) name is = opened_named (needs_of (Restore access file entry version)) name is
written_named (ExportAttachment access file entry called None) name is = opened_named (needs_of (ExportAttachment access file entry called None)) name is
written_named (ExportAttachment access file entry called (Some to)) name is = (0, omega arith, is)
written_named (ImportAttachment access file entry called source replaces) name is =
    Contains-append_left (files_of (needs_of (ImportAttachment access file entry called source replaces))) (source ∷ []) name
    (opened_named (needs_of (ImportAttachment access file entry called source replaces)) name is)
written_named (RemoveAttachment access file entry called) name is = opened_named (needs_of (RemoveAttachment access file entry called)) name is
written_named (Move access file node group) name is = opened_named (needs_of (Move access file node group)) name is
written_named (Remove access file entry) name is = opened_named (needs_of (Remove access file entry)) name is
written_named (MakeGroup access file group) name is = opened_named (needs_of (MakeGroup access file group)) name is
written_named (RemoveGroup access file group) name is = opened_named (needs_of (RemoveGroup access file group)) name is
written_named (Merge access file names from same dry details) name is = opened_named (needs_of (Merge access file names from same dry details)) name is
written_named (Import access format source from file) name is = (1, omega arith, is)
written_named (Create access file called cipher kdf) name is = (0, omega arith, is)
written_named (Export access format file) name is = opened_named (needs_of (Export access format file)) name is
written_named (EditFile access file change) name is = changed_named access file change name is
written_named (Info access file) name is = opened_named (needs_of (Info access file)) name is

-- Where reading what to do went well, and so did what follows, no count of faults rose.
pub faultless_after : (result : Result Output Stop) (f f' f'' i i' d d' : ℕ) → (f' ≡ f) × (i' ≡ i) → OnOk result ((f'' ≡ f') × (d' ≡ d))
    → OnOk result ((f'' ≡ f) × (i' ≡ i) × (d' ≡ d))
faultless_after (Ok output) f f' f'' i i' d d' read done = (done.0 ∙ read.0, read.1, done.1)
faultless_after (Err stop) f f' f'' i i' d d' read done = tt

-- What keeps only the count of the dice keeps all, where nothing else is asked.
pub faultless_dice : (result : Result Output Stop) (f i d d' : ℕ) → OnOk result (d' ≡ d) → OnOk result ((f ≡ f) × (i ≡ i) × (d' ≡ d))
faultless_dice (Ok output) f i d d' done = (refl, refl, done)
faultless_dice (Err stop) f i d d' done = tt

-- A stop of the command that the words are, as a stop of the call.
pub command_caused : (result : Result Output Stop) (command : Command) (words : Result Command Refusal) (f f' f'' a a' i i' d d' : ℕ) → words ≡ Ok command
    → f ≤ f' → IfErr result (IsCommandStop (file_written command) f' f'' d d') → IfErr result (IsCaused (files_named words) f f'' a a' i i' d d')
command_caused (Ok x) command words f f' f'' a a' i i' d d' is p h = tt
command_caused (Err (Refused refusal)) command words f f' f'' a a' i i' d d' is p h = λ e. absurd (h e)
command_caused (Err (FileFault name)) command words f f' f'' a a' i i' d d' is p h =
    subst (λ (w : Result Command Refusal). Increased f f'' × Contains (files_named w) name) (sym is)
    (rose_before f f' f'' p h.1, written_named command name (sym h.0))
command_caused (Err InputFault) command words f f' f'' a a' i i' d d' is p h = inr h
command_caused (Err NoMemory) command words f f' f'' a a' i i' d d' is p h = tt
