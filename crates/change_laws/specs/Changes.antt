-- What a command makes of its document: one that grew, or the merge of it with the sources. Each
-- statement speaks of all documents, moments, lines, settings and dice.
use Rattle.std.specs.Prelude.{◌≡◌, ◌⊎◌, ℕ, Bool, false, true, List, Option, None, Some, Ok}
use Rattle.vault_model.specs.Tree.{BareDoc, IsDoc}
use Rattle.cli_commands.specs.DocumentMerge.Merging.{merge_result}
use Rattle.command_laws.specs.Growing.{GrowsInCurrent}
use Rattle.cli_needs.specs.declared.command.Access.{Access}
use Rattle.cli_needs.specs.declared.command.Command.{Command}
use Rattle.cli_needs.specs.declared.command.Command.TheVariants.{Ls, Show, History, Search, Add, Edit, Restore, ExportAttachment, ImportAttachment, RemoveAttachment, Move, Remove, MakeGroup, RemoveGroup, Merge, Import, Create, Export, EditFile, Info}
use Rattle.cli_commands.specs.Commands.{Change, Inputs, change_of}

-- A command changes the document that it opens by itself: it is no merge, makes no database, changes
-- no key, and does not only read.
abbrev pub edits : Command → Bool
edits (Ls access file group recursive flat ids) = false
edits (Show access file entry clear all attachments names totp at) = false
edits (History access file entry) = false
edits (Search access file term) = false
edits (Add access file entry asked) = true
edits (Edit access file entry asked further) = true
edits (Restore access file entry version) = true
edits (ExportAttachment access file entry name to) = false
edits (ImportAttachment access file entry name source replaces) = true
edits (RemoveAttachment access file entry name) = true
edits (Move access file node group) = true
edits (Remove access file entry) = true
edits (MakeGroup access file group) = true
edits (RemoveGroup access file group) = true
edits (Merge access file names from same dry details) = false
edits (Import access format source from file) = false
edits (Create access file name cipher kdf) = false
edits (Export access format file) = false
edits (EditFile access file change) = false
edits (Info access file) = false

-- A change leaves another document, which grew in what is current.
pub record LeavesGrown (d : BareDoc) (change : Change) : Type 0 where
  pub doc : BareDoc
  pub is : change.doc ≡ Some doc
  pub grows : IsDoc doc → GrowsInCurrent d doc

-- so does that of every command that changes its document
abbrev pub CommandsGrow : Type 0
CommandsGrow = (time : ℕ) (command : Command) (input : Inputs) (d : BareDoc)
    (dice : List ℕ) (change : Change) → IsDoc d → edits command ≡ true
    → (change_of time command input d dice).answer ≡ Ok change
    → LeavesGrown d change

-- A change leaves the document that a target and its sources are merged into, and is to be written
-- where that is another one than the target.
pub record LeavesMerged (t : BareDoc) (ss : List BareDoc) (change : Change) : Type 0 where
  pub doc : BareDoc
  pub merged : merge_result t ss ≡ Ok doc
  pub is : (change.doc ≡ Some doc) ⊎ ((change.doc ≡ None) × (t ≡ doc))

-- so does that of a merge that is no dry run
abbrev pub MergesMerge : Type 0
MergesMerge = (time : ℕ) (access : Access) (file : List ℕ) (names : List (List ℕ)) (from : Access)
    (same details : Bool) (input : Inputs) (d : BareDoc) (dice : List ℕ)
    (change : Change)
    → (change_of time (Merge access file names from same false details) input d dice).answer
    ≡ Ok change → LeavesMerged d input.sources change
