-- Under which conditions a call is carried out.
use Rattle.std.specs.Prelude.{◌≡◌, ◌≤◌, ℕ, Bool, true, false, List, drop, Option, None, Some, Ok}
use Rattle.time_core.specs.Times.{last_stamp}
use Rattle.stream_core.specs.InnerStream.{NoKeystream}
use Rattle.vault_model.specs.declared.forms.DocForm.TheVariants.{Plain}
use Rattle.vault_model.specs.Bare.{BareAttachment}
use Rattle.vault_model.specs.Db.{NodeId, nil_id}
use Rattle.vault_model.specs.Tree.{BareDoc, Tree}
use Rattle.tree_core.specs.Attachments.{attachment_of}
use Rattle.tree_core.specs.Finding.{without_slashes}
use Rattle.tree_core.specs.FurtherChanges.{FurtherChange}
use Rattle.condition_laws.specs.Conditions.{CanAdd, CanAttach, CanDetach, CanEdit, CanMakeGroup, CanMoveEntry, CanMoveGroup, CanRemoveEntry, CanRemoveGroup, CanRestore, NamesEntry}
use Rattle.generation_laws.specs.Conditions.{CanChoose}
use Rattle.content_condition_laws.specs.Conditions.{CanBeMerged, CanExport, CanSearch, CanShow, CanShowCode, CanShowHistory}
use Rattle.doc_write.specs.Written.{write_outcome}
use Rattle.kdbx_frame.specs.declared.settings.Settings.{Settings}
use Rattle.kdbx_frame.specs.declared.sealings.Sealing.{Sealing}
use Rattle.keepass_call.specs.KdbxSeal.Answers.{size_refusal}
use Rattle.cli_needs.specs.declared.command.Command.{Command}
use Rattle.cli_needs.specs.declared.command.Command.TheVariants.{Ls, Show, History, Search, Add, Edit, Restore, ExportAttachment, ImportAttachment, RemoveAttachment, Move, Remove, MakeGroup, RemoveGroup, Merge, Import, Create, Export, EditFile, Info}
use Rattle.cli_needs.specs.Needs.{generated_by}
use Rattle.cli_profiles.specs.declared.profiles.PasswordProfile.{PasswordProfile}
use Rattle.cli_codes.specs.Codes.{code_refusal}
use Rattle.content_condition_laws.specs.CliPrinting.Listing.{tree_listed}
use Rattle.cli_writing.specs.Drawing.{next_bytes}
use Rattle.keepass_call.specs.CliSealing.Draws.{draws_of}
use Rattle.keepass_call.specs.CliSealing.Sealing.{settings_for}
use Rattle.keepass_call.specs.CliChanges.Entries.{further_of}
use Rattle.keepass_call.specs.CliChanges.Ids.{new_id}
use Rattle.keepass_call.specs.CliChanges.Nodes.{names_group}
use Rattle.tree_core.specs.Changes.{is_free}
use Rattle.keepass_call.specs.CliCommands.Commands.{Change, Inputs, bin_id, change_with, makes_node}
use Rattle.keepass_call.specs.CliFiles.Tasks.{Task}
use Rattle.keepass_call.specs.CallRun.Endings.{change_of_task, inputs_of}
use Rattle.keepass_call.specs.Held.{IsTask}
use Rattle.keepass_call.specs.Outcome.{World}

-- ---- the command

-- The node of the first word can be moved: a group where the word ends with a slash, else an entry.
abbrev pub CanMove : Bool → (path goal : List ℕ) → ℕ → BareDoc → Type 0
CanMove true path goal now d = CanMoveGroup path goal now d
CanMove false path goal now d = CanMoveEntry path goal now d

-- An entry can be shown, or its one-time code where that is asked for.
abbrev pub CanShowEntry : (totp : Bool) → List ℕ → (clear all : Bool) → List (List ℕ)
    → (at now : ℕ) → BareDoc → Type 0
CanShowEntry true path clear all names at now d = CanShowCode path names at now d
CanShowEntry false path clear all names at now d = CanShow path clear all names at d

-- An entry can be edited, and the text that its codes are to be made from, if one is given, is not
-- refused.
pub record CanEditWith (file : List ℕ) (otp : Option (List ℕ)) (path : List ℕ)
    (further : FurtherChange) (now : ℕ) (d : BareDoc) : Type 0 where
  pub code : code_refusal file otp ≡ Ok tt
  pub entry : CanEdit path further now d

-- The path names an entry that has an attachment of this name.
pub record CanTakeOut (path name : List ℕ) (d : BareDoc) : Type 0 where
  pub entry : NamesEntry path d
  pub attachment : BareAttachment
  pub there : attachment_of name entry.before.current.mark.content ≡ Some attachment

-- What a command makes of a document is defined, and no refusal.
pub record Answers (time : ℕ) (command : Command) (input : Inputs) (id : NodeId)
    (d : BareDoc) : Type 0 where
  pub change : Change
  pub is : change_with time command input id d ≡ Ok change

-- The condition of each command on its document; a node that it makes has this id.
abbrev pub CanChange : ℕ → Command → Inputs → NodeId → BareDoc → Type 0
CanChange time (Ls access file group recursive flat ids) input id d =
    (tree : Tree) × (tree_listed group d ≡ Some tree)
CanChange time (Show access file entry clear all attachments names totp at) input id d =
    CanShowEntry totp entry clear all names at time d
CanChange time (History access file entry) input id d = CanShowHistory entry d
CanChange time (Search access file term) input id d = CanSearch term d
CanChange time (Add access file entry asked) input id d = CanAdd entry id d
CanChange time (Edit access file entry asked further) input id d =
    CanEditWith file input.otp entry (further_of further input.fields) time d
CanChange time (Restore access file entry version) input id d =
    CanRestore entry version time d
CanChange time (ExportAttachment access file entry name to) input id d =
    CanTakeOut entry name d
CanChange time (ImportAttachment access file entry name source replaces) input id d =
    CanAttach entry name replaces time d
CanChange time (RemoveAttachment access file entry name) input id d = CanDetach entry name time d
CanChange time (Move access file node group) input id d =
    CanMove (names_group node) node group time d
CanChange time (Remove access file entry) input id d =
    CanRemoveEntry entry (bin_id id d) time d
CanChange time (MakeGroup access file group) input id d =
    CanMakeGroup (without_slashes group) id d
CanChange time (RemoveGroup access file group) input id d =
    CanRemoveGroup group (bin_id id d) time d
CanChange time (Merge access file names from same dry details) input id d =
    CanBeMerged d input.sources
CanChange time (Import access format source from file) input id d = Unit {0}
CanChange time (Create access file name cipher kdf) input id d =
    is_free id d ≡ true
CanChange time (Export access format file) input id d = CanExport format d
CanChange time (EditFile access file change) input id d = Unit {0}
CanChange time (Info access file) input id d = Unit {0}

-- ---- the call

-- The id of a node that a command makes, of the dice.
abbrev pub id_for : Bool → List ℕ → NodeId
id_for true dice = new_id (next_bytes 16 dice)
id_for false dice = nil_id

-- What the dice have left after such an id, if there is one.
abbrev pub dice_after_id : Bool → List ℕ → List ℕ
dice_after_id true dice = drop 16 dice
dice_after_id false dice = dice

-- Where a password is to be generated, the dice choose one.
abbrev pub CanGenerate : Option PasswordProfile → List ℕ → Type 0
CanGenerate None dice = Unit {0}
CanGenerate (Some profile) dice = CanChoose profile.alphabet profile.length dice

-- A document is within the limits of its file: a plain document, or one that is sealed with what is
-- drawn from the dice.
abbrev pub FitsFile : Option Sealing → BareDoc → List ℕ → Type 0
FitsFile None d dice =
    (text : List ℕ) × (write_outcome Plain NoKeystream None d ≡ Ok text)
FitsFile (Some sealing) d dice = size_refusal (settings_for sealing.settings d)
    (draws_of (settings_for sealing.settings d) dice) d ≡ None

-- The words are a task, whose lines and files are there and hold its databases; the moment is in
-- the calendar; where a password is to be generated, the dice after those for the id of a new node
-- choose one; the condition of the command holds; and a document that is written fits its file.
pub record CanBeCarried (words : List (List ℕ)) (time : ℕ) (world : World) : Type 0 where
  pub task : Task
  pub is_task : IsTask words time world task
  pub in_calendar : time ≤ last_stamp
  pub can_generate : CanGenerate (generated_by task.command)
      (dice_after_id (makes_node task.command task.opened.doc) world.dice)
  pub can : CanChange time task.command (inputs_of task)
      (id_for (makes_node task.command task.opened.doc) world.dice) task.opened.doc
  pub fits : (change : Change) (d : BareDoc)
      → (change_of_task time task world.dice).answer ≡ Ok change → change.doc ≡ Some d
      → FitsFile task.opened.sealing d (change_of_task time task world.dice).left
