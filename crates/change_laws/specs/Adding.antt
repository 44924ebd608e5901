-- Commands that only add: nothing is deleted for good, and no group is moved. Each statement speaks of
-- all documents, moments, lines, settings and dice.
use Rattle.std.specs.Prelude.{◌≡◌, ℕ, false, if◌then◌else◌, List, Option, None, Some, Ok}
use Rattle.vault_model.specs.Db.{NodeId}
use Rattle.vault_model.specs.Tree.{BareDoc, IsDoc}
use Rattle.tree_core.specs.After.{AfterRemoval, after_remove_entry}
use Rattle.tree_core.specs.declared.fails.Removed.TheVariants.{Recycled}
use Rattle.command_laws.specs.Adding.{AddsOnly}
use Rattle.cli_needs.specs.declared.command.Command.{Command}
use Rattle.cli_needs.specs.declared.command.Command.TheVariants.{Add, Edit, ImportAttachment, Restore, Move, Remove, RemoveAttachment, MakeGroup}
use Rattle.cli_writing.specs.Drawing.{next_bytes}
use Rattle.cli_changes.specs.Ids.{new_id}
use Rattle.cli_changes.specs.Nodes.{names_group}
use Rattle.cli_commands.specs.Commands.{Change, Inputs, bin_id, change_of, makes_node}

-- The id of the node that a command makes, if it makes one: of the next bytes of the dice.
abbrev pub made_id : Command → BareDoc → List ℕ → Option NodeId
made_id command d dice =
    if makes_node command d then Some (new_id (next_bytes 16 dice)) else None

-- A removal puts the entry that its path names into the bin, which has this id where it is made.
abbrev pub PutsIntoBin : List ℕ → Option NodeId → ℕ → BareDoc → Type 0
PutsIntoBin path bin time d = (a : AfterRemoval) → after_remove_entry path bin time d ≡ Ok a
    → a.removed ≡ Recycled

-- A command only adds to a document: it adds, edits or restores an entry, puts an attachment to one or
-- takes it away, makes a group, moves an entry, or puts one into the bin.
abbrev pub OnlyAddsBy : ℕ → Command → List ℕ → BareDoc → Type 0
OnlyAddsBy time (Add access file entry asked) dice d = Unit {0}
OnlyAddsBy time (Edit access file entry asked further) dice d = Unit {0}
OnlyAddsBy time (Restore access file entry version) dice d = Unit {0}
OnlyAddsBy time (ImportAttachment access file entry name source replaces) dice d = Unit {0}
OnlyAddsBy time (RemoveAttachment access file entry name) dice d = Unit {0}
OnlyAddsBy time (MakeGroup access file group) dice d = Unit {0}
OnlyAddsBy time (Move access file node group) dice d = names_group node ≡ false
OnlyAddsBy time (Remove access file entry) dice d =
    PutsIntoBin entry (bin_id (new_id (next_bytes 16 dice)) d) time d
OnlyAddsBy time command dice d = ⊥

-- A change leaves a document that has all that another had, and at most one node more.
pub record LeavesAdded (id : Option NodeId) (d : BareDoc) (change : Change) : Type 0 where
  pub doc : BareDoc
  pub is : change.doc ≡ Some doc
  pub adds : IsDoc doc → AddsOnly id d doc

-- So does that of every command that only adds.
abbrev pub CommandsAdd : Type 0
CommandsAdd = (time : ℕ) (command : Command) (input : Inputs) (d : BareDoc)
    (dice : List ℕ) (change : Change) → IsDoc d → OnlyAddsBy time command dice d
    → (change_of time command input d dice).answer ≡ Ok change
    → LeavesAdded (made_id command d dice) d change
