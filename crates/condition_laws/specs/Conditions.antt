-- Under which conditions a command is carried out on a document.
use Rattle.std.specs.Prelude.{◌≡◌, ◌≤◌, ℕ, ◌+◌, Bool, true, false, max, List, Option, None, Some, Ok, is_some}
use Rattle.time_core.specs.Times.{last_stamp}
use Rattle.vault_model.specs.Bare.{BareAttachment}
use Rattle.vault_model.specs.Db.{NodeId}
use Rattle.vault_model.specs.Join.{IsIn, is_id}
use Rattle.vault_model.specs.SeenNodes.{entry_time}
use Rattle.vault_model.specs.Shape.{BareVersion, EntryRecord}
use Rattle.vault_model.specs.Tree.{BareDoc, IsDoc, LEVELS, Tree, height, id_of}
use Rattle.tree_core.specs.After.{AfterRemoval, after_add, after_attach, after_detach, after_edit, after_make_group, after_move_entry, after_move_group, after_remove_entry, after_remove_group, after_restore, bin_level, is_parent, is_recycled, needs_bin}
use Rattle.tree_core.specs.Attachments.{attachment_of}
use Rattle.tree_core.specs.Changes.{group_with, has_group, holder, is_free, level_of, parent_of, placed_of}
use Rattle.tree_core.specs.Finding.{entry_found, group_at_path, group_found, has_entry_path, has_group_path, without_slashes}
use Rattle.tree_core.specs.FurtherChanges.{FurtherChange, has_field}
use Rattle.tree_core.specs.Histories.{version_numbered}
use Rattle.tree_core.specs.NewNodes.{GivenValues}
use Rattle.tree_core.specs.NewPaths.{before_last, names_root, new_path}
use Rattle.frame_laws.specs.Frame.{entry_of}

-- ---- conditions

-- A time after this one and not before now is within the calendar.
abbrev pub HasTimeAfter : ℕ → ℕ → Type 0
HasTimeAfter time now = max now (time + 1) ≤ last_stamp

-- A path names an entry, in this group and with this record.
pub record NamesEntry (path : List ℕ) (d : BareDoc) : Type 0 where
  pub entry : NodeId
  pub group : NodeId
  pub before : EntryRecord
  pub named : entry_found d path ≡ Some entry
  pub held : holder entry d.tree ≡ Some group
  pub is : entry_of d entry ≡ Some before

-- A path names a group.
pub record NamesGroup (path : List ℕ) (d : BareDoc) : Type 0 where
  pub id : NodeId
  pub group : Tree
  pub named : group_found d path ≡ Some id
  pub is : group_with id d.tree ≡ Some group

-- ---- edit

-- The path names an entry, which has the fields that are to be taken away, and whose last time has
-- one after it.
pub record CanEdit (path : List ℕ) (further : FurtherChange) (now : ℕ) (d : BareDoc) : Type 0 where
  pub entry : NamesEntry path d
  pub fields : (name : List ℕ) → IsIn name further.unset
      → has_field name entry.before.current.mark.content.fields ≡ true
  pub time : HasTimeAfter (entry_time entry.before) now

-- Where an entry can be edited, `edit` gives a document.
abbrev pub EditSucceeds : Type 0
EditSucceeds = (path : List ℕ) (values : GivenValues) (further : FurtherChange) (now : ℕ)
    (d : BareDoc) → IsDoc d → CanEdit path further now d
    → (e : BareDoc) × (after_edit path values further now d ≡ Ok e)

-- ---- attach and detach

-- The path names an entry, which has no attachment of this name unless that is to be replaced, and
-- whose last time has one after it.
pub record CanAttach (path name : List ℕ) (replaces : Bool) (now : ℕ) (d : BareDoc) : Type 0 where
  pub entry : NamesEntry path d
  pub free : replaces ≡ false → attachment_of name entry.before.current.mark.content ≡ None
  pub time : HasTimeAfter (entry_time entry.before) now

-- Where something can be attached, `attach` gives a document.
abbrev pub AttachSucceeds : Type 0
AttachSucceeds = (path name bytes : List ℕ) (replaces : Bool) (now : ℕ) (d : BareDoc) → IsDoc d
    → CanAttach path name replaces now d
    → (e : BareDoc) × (after_attach path name bytes replaces now d ≡ Ok e)

-- The path names an entry that has an attachment of this name, and whose last time has one after
-- it.
pub record CanDetach (path name : List ℕ) (now : ℕ) (d : BareDoc) : Type 0 where
  pub entry : NamesEntry path d
  pub attachment : BareAttachment
  pub there : attachment_of name entry.before.current.mark.content ≡ Some attachment
  pub time : HasTimeAfter (entry_time entry.before) now

-- Where an attachment can be taken away, `detach` gives a document.
abbrev pub DetachSucceeds : Type 0
DetachSucceeds = (path name : List ℕ) (now : ℕ) (d : BareDoc) → IsDoc d
    → CanDetach path name now d → (e : BareDoc) × (after_detach path name now d ≡ Ok e)

-- ---- restore

-- The path names an entry that has a version of this number, and whose last time has one after it.
pub record CanRestore (path : List ℕ) (number now : ℕ) (d : BareDoc) : Type 0 where
  pub entry : NamesEntry path d
  pub version : BareVersion
  pub numbered : version_numbered number entry.before ≡ Some version
  pub time : HasTimeAfter (entry_time entry.before) now

-- Where an entry's version can be restored, `restore` gives a document.
abbrev pub RestoreSucceeds : Type 0
RestoreSucceeds = (path : List ℕ) (number now : ℕ) (d : BareDoc) → IsDoc d
    → CanRestore path number now d → (e : BareDoc) × (after_restore path number now d ≡ Ok e)

-- ---- moves

-- The one path names an entry and the other a group, in which it is not.
pub record CanMoveEntry (path goal : List ℕ) (now : ℕ) (d : BareDoc) : Type 0 where
  pub entry : NamesEntry path d
  pub to : NodeId
  pub aimed : group_found d goal ≡ Some to
  pub apart : is_id entry.group to ≡ false
  pub time : HasTimeAfter entry.before.placed now

-- Where an entry can be moved, `mv` gives a document.
abbrev pub MoveEntrySucceeds : Type 0
MoveEntrySucceeds = (path goal : List ℕ) (now : ℕ) (d : BareDoc) → IsDoc d
    → CanMoveEntry path goal now d → (e : BareDoc) × (after_move_entry path goal now d ≡ Ok e)

-- A group can be put into another of this level: it does not hold it, all that is in it stays above
-- the last level, and its time has one after it.
pub record CanPut (group : Tree) (to : NodeId) (level now : ℕ) : Type 0 where
  pub outside : has_group to group ≡ false
  pub fits : level + height group ≤ LEVELS
  pub time : HasTimeAfter (placed_of group) now

-- The paths name two groups; the one that is moved is not the root and not in the other.
pub record CanMoveGroup (path goal : List ℕ) (now : ℕ) (d : BareDoc) : Type 0 where
  pub moving : NamesGroup path d
  pub to : NodeId
  pub aimed : group_found d goal ≡ Some to
  pub apart : is_parent to (parent_of moving.id d.tree) ≡ false
  pub no_root : is_id moving.id (id_of d.tree) ≡ false
  pub put : CanPut moving.group to (level_of to d.tree) now

-- Where a group can be moved, `mv` gives a document.
abbrev pub MoveGroupSucceeds : Type 0
MoveGroupSucceeds = (path goal : List ℕ) (now : ℕ) (d : BareDoc) → CanMoveGroup path goal now d
    → (e : BareDoc) × (after_move_group path goal now d ≡ Ok e)

-- ---- new nodes

-- The group is there, no entry has the path, and the id is free.
pub record CanAdd (path : List ℕ) (id : NodeId) (d : BareDoc) : Type 0 where
  pub group : NodeId
  pub named : group_at_path d (before_last path) ≡ Some group
  pub free_path : has_entry_path d (new_path path) ≡ false
  pub free_id : is_free id d ≡ true

-- Where an entry can be added, `add` gives a document.
abbrev pub AddSucceeds : Type 0
AddSucceeds = (path : List ℕ) (id : NodeId) (values : GivenValues) (now : ℕ) (d : BareDoc)
    → CanAdd path id d → (e : BareDoc) × (after_add path id values now d ≡ Ok e)

-- The group is there and not on the last level, no group has the path, which is not the root's, and
-- the id is free.
pub record CanMakeGroup (path : List ℕ) (id : NodeId) (d : BareDoc) : Type 0 where
  pub group : NodeId
  pub named : group_at_path d (before_last path) ≡ Some group
  pub free_path : has_group_path d (new_path path) ≡ false
  pub no_root : names_root (new_path path) ≡ false
  pub fits : level_of group d.tree + 1 ≤ LEVELS
  pub free_id : is_free id d ≡ true

-- Where a group can be made, `mkdir` gives a document.
abbrev pub MakeGroupSucceeds : Type 0
MakeGroupSucceeds = (path : List ℕ) (id : NodeId) (now : ℕ) (d : BareDoc)
    → CanMakeGroup (without_slashes path) id d
    → (e : BareDoc) × (after_make_group path id now d ≡ Ok e)

-- ---- removals

-- A bin that is to be made can be: its id is free, and the time of the bin has one after it.
abbrev pub CanMakeBin : Option NodeId → ℕ → BareDoc → Type 0
CanMakeBin bin now d = (id : NodeId) → bin ≡ Some id
    → (is_free id d ≡ true) × HasTimeAfter d.meta.bin.changed now

-- The path names an entry. Where it goes into the bin, a bin that is to be made can be, and its
-- time has one after it.
pub record CanRemoveEntry (path : List ℕ) (bin : Option NodeId) (now : ℕ) (d : BareDoc) : Type 0
  where
    pub entry : NamesEntry path d
    pub made : is_recycled entry.group d ≡ true → CanMakeBin bin now d
    pub time : is_recycled entry.group d ≡ true → HasTimeAfter entry.before.placed now

-- Where an entry can be removed, `rm` gives a document.
abbrev pub RemoveEntrySucceeds : Type 0
RemoveEntrySucceeds = (path : List ℕ) (bin : Option NodeId) (now : ℕ) (d : BareDoc) → IsDoc d
    → CanRemoveEntry path bin now d
    → (a : AfterRemoval) × (after_remove_entry path bin now d ≡ Ok a)

-- The path names a group that is not the root. Where it goes into the bin, a bin that is to be made
-- can be, and the group can be put into the bin.
pub record CanRemoveGroup (path : List ℕ) (bin : Option NodeId) (now : ℕ) (d : BareDoc) : Type 0
  where
    pub removing : NamesGroup path d
    pub no_root : is_id removing.id (id_of d.tree) ≡ false
    pub made : is_recycled removing.id d ≡ true → CanMakeBin bin now d
    pub put : is_recycled removing.id d ≡ true
        → CanPut removing.group d.meta.bin.value.id (bin_level d) now

-- a bin is given exactly where one has to be made
abbrev pub RemoveGroupSucceeds : Type 0
RemoveGroupSucceeds = (path : List ℕ) (bin : Option NodeId) (now : ℕ) (d : BareDoc)
    → is_some bin ≡ needs_bin d → CanRemoveGroup path bin now d
    → (a : AfterRemoval) × (after_remove_group path bin now d ≡ Ok a)
