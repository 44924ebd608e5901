-- The document after each command that changes it, or the first refusal.
use Rattle.std.specs.Prelude.{◌≡◌, ◌⊎◌, ℕ, ◌+◌, Bool, true, false, not, ◌&&◌, ◌||◌, if◌then◌else◌, max, nat_lt, List, [], ◌∷◌, Option, None, Some, Result, Ok, Err, MatchResult}
use Rattle.std.specs.Option.{ok_or, option_and_then, unwrap_or}
use Rattle.vault_model.specs.OutsideCore.Results.{◌>>=◌}
use Rattle.vault_model.specs.TimeCore.Times.{last_stamp}
use Rattle.vault_model.specs.declared.metas.Meta.{Meta}
use Rattle.vault_model.specs.Bare.{BareAttachment, BareContent}
use Rattle.vault_model.specs.Db.{NodeId}
use Rattle.vault_model.specs.Join.{is_id}
use Rattle.vault_model.specs.SeenNodes.{entry_time}
use Rattle.vault_model.specs.Shape.{BareVersion, EntryRecord}
use Rattle.vault_model.specs.Tree.{BareDoc, LEVELS, Tree, height, id_of}
use Rattle.tree_core.specs.Finding.{entry_found, group_at_path, group_found, has_entry_path, has_group_path, without_slashes}
use Rattle.tree_core.specs.declared.fails.Removed.{Removed}
use Rattle.tree_core.specs.declared.fails.Removed.TheVariants.{Deleted, Recycled}
use Rattle.tree_core.specs.declared.fails.TreeFail.{TreeFail}
use Rattle.tree_core.specs.declared.fails.TreeFail.TheVariants.{AlreadyThere, IdTaken, IntoItself, NameTaken, NoMemory, NoSuchPath, NoVersion, RootFixed, StampLimit, TooDeep}
use Rattle.tree_core.specs.Changes.{changed_at, changed_entry, entries_buried, entry_at, entry_moved, group_moved, group_with, has_group, holder, is_free, level_of, parent_of, placed_of, tree_buried, with_entry, with_group, without_entry, without_group}
use Rattle.tree_core.specs.Attachments.{attachment_named, has_attachment, is_attachable, with_attachment, without_attachment}
use Rattle.tree_core.specs.FurtherChanges.{FurtherChange, further_changed, has_unset}
use Rattle.tree_core.specs.Histories.{settled_history, version_numbered, with_version}
use Rattle.tree_core.specs.NewNodes.{GivenValues, edited_content, empty_bin, empty_group, new_entry, new_fields, new_version}
use Rattle.tree_core.specs.NewPaths.{after_last, before_last, names_root, new_path}

-- ---- what a call answers

-- A call that changes a document: the document is the defined one, or it is as before and the
-- answer is the defined refusal, or that memory ran out.
abbrev pub Changes : Result BareDoc TreeFail → Result (Unit {0}) TreeFail → BareDoc → BareDoc
    → Type 0
Changes after result old new =
    MatchResult result (λ _. after ≡ Ok new) (λ e. (new ≡ old) × ((after ≡ Err e) ⊎ (e ≡ NoMemory)))

-- ---- refusals

-- a path must name something
abbrev pub named_or_refusal : {A : Type 0} → Option A → Result A TreeFail
named_or_refusal None = Err NoSuchPath
named_or_refusal (Some x) = Ok x

-- a refusal where something holds
abbrev pub refuse_if : Bool → TreeFail → Result (Unit {0}) TreeFail
refuse_if true fail = Err fail
refuse_if false fail = Ok tt

-- the later of now and a second after another time, which must be in the calendar
abbrev pub time_after : ℕ → ℕ → Result ℕ TreeFail
time_after now time =
    if nat_lt last_stamp (max now (time + 1)) then Err (StampLimit (max now (time + 1)))
    else Ok (max now (time + 1))

-- ---- new nodes

-- `add`: a new entry, the last of its group
abbrev pub after_add : List ℕ → NodeId → GivenValues → ℕ → BareDoc → Result BareDoc TreeFail
after_add path id values now d = do
  group ← named_or_refusal (group_at_path d (before_last path))
  _ ← refuse_if (has_entry_path d (new_path path)) NameTaken
  _ ← refuse_if (not (is_free id d)) (IdTaken id)
  Ok (record d {
    tree = changed_at group (with_entry (
      id,
      new_entry (new_fields d.meta.settings.value.protect (after_last path) values) now,
    )) d.tree;
  })

-- a path that a new group cannot have: another group has it, or it names the root
abbrev pub is_group_taken : List ℕ → BareDoc → Bool
is_group_taken path d = has_group_path d path || names_root path

-- a new group of a path without slashes around it, the last of its group
abbrev pub after_new_group : List ℕ → NodeId → ℕ → BareDoc → Result BareDoc TreeFail
after_new_group path id now d = do
  group ← named_or_refusal (group_at_path d (before_last path))
  _ ← refuse_if (is_group_taken (new_path path) d) NameTaken
  _ ← refuse_if (nat_lt LEVELS (level_of group d.tree + 1)) TooDeep
  _ ← refuse_if (not (is_free id d)) (IdTaken id)
  Ok (record d {
    tree = changed_at group (with_group (empty_group id (after_last path) now)) d.tree;
  })

-- `make_group`: the same, where one slash may be at the start and one at the end
abbrev pub after_make_group : List ℕ → NodeId → ℕ → BareDoc → Result BareDoc TreeFail
after_make_group path id now d = after_new_group (without_slashes path) id now d

-- ---- entries that are edited

-- An entry and the group that it is in.
pub record Holding : Type 0 where
  pub group : NodeId
  pub entry : NodeId × EntryRecord

-- the entry of this id in a group
abbrev pub held_in : NodeId → Tree → NodeId → Result Holding TreeFail
held_in id t group = do
  entry ← named_or_refusal (entry_at group id t)
  Ok (record { group = group; entry = entry })

-- the entry that a path names, and its group
abbrev pub entry_named : List ℕ → BareDoc → Result Holding TreeFail
entry_named path d = do
  id ← named_or_refusal (entry_found d path)
  group ← named_or_refusal (holder id d.tree)
  held_in id d.tree group

-- an entry that says something else, by what it said, in a version made at a time; its history is
-- within the limits
abbrev pub changed_content : Meta → (BareContent → BareContent) → ℕ → EntryRecord → EntryRecord
changed_content meta says time e =
    settled_history meta.settings.value.history_items meta.settings.value.history_size
    (with_version (new_version (says e.current.mark.content) time e.current) e)

-- An entry that a path names comes to say something else, by what it said and by what the database
-- says of itself, unless what it said is refused; the versions before are its history.
abbrev pub after_change : List ℕ → (BareContent → Result (Unit {0}) TreeFail)
    → (Meta → BareContent → BareContent) → ℕ → BareDoc → Result BareDoc TreeFail
after_change path allows says now d = do
  held ← entry_named path d
  _ ← allows held.entry.1.current.mark.content
  time ← time_after now (entry_time held.entry.1)
  Ok (record d {
    tree = changed_at held.group
        (changed_entry held.entry.0 (changed_content d.meta (says d.meta) time)) d.tree;
  })

-- what an entry says with the values that are given, and with what else is changed
abbrev pub edited_so : GivenValues → FurtherChange → Meta → BareContent → BareContent
edited_so values further meta content =
    further_changed further (edited_content meta.settings.value.protect values content)

-- `edit`: other values, fields, tags or another expiry; fields that are taken away are there
abbrev pub after_edit : List ℕ → GivenValues → FurtherChange → ℕ → BareDoc
    → Result BareDoc TreeFail
after_edit path values further = after_change path (has_unset further) (edited_so values further)

-- `attach`: these bytes under a name among the attachments
abbrev pub after_attach : (path name bytes : List ℕ) → (replaces : Bool) → ℕ → BareDoc
    → Result BareDoc TreeFail
after_attach path name bytes replaces =
    after_change path (is_attachable name replaces) (λ meta. with_attachment name bytes)

-- `detach`: no attachment of a name
abbrev pub after_detach : (path name : List ℕ) → ℕ → BareDoc → Result BareDoc TreeFail
after_detach path name = after_change path (has_attachment name) (λ meta. without_attachment name)

-- the attachment of a name that the entry that a path names has
abbrev pub attachment_in : (path name : List ℕ) → BareDoc → Result BareAttachment TreeFail
attachment_in path name d = do
  held ← entry_named path d
  attachment_named name held.entry.1.current.mark.content

-- the version of an entry that has this number, or the refusal
abbrev pub version_or_refusal : ℕ → EntryRecord → Result BareVersion TreeFail
version_or_refusal number e = ok_or (version_numbered number e) (NoVersion number)

-- `restore`: what a version says, again, and all versions before it as the history
abbrev pub after_restore : List ℕ → (number : ℕ) → ℕ → BareDoc → Result BareDoc TreeFail
after_restore path number now d = do
  held ← entry_named path d
  version ← version_or_refusal number held.entry.1
  time ← time_after now (entry_time held.entry.1)
  Ok (record d {
    tree = changed_at held.group (changed_entry held.entry.0
        (changed_content d.meta (λ _. version.mark.content) time)) d.tree;
  })

-- ---- nodes that are moved

-- an entry moved from its group to the end of another
abbrev pub entry_moved_to : NodeId → Holding → ℕ → BareDoc → Result BareDoc TreeFail
entry_moved_to group held now d = do
  time ← time_after now held.entry.1.placed
  Ok (record d { tree = entry_moved held.group group time held.entry d.tree })

-- `move_entry`
abbrev pub after_move_entry : List ℕ → List ℕ → ℕ → BareDoc → Result BareDoc TreeFail
after_move_entry path goal now d = do
  held ← entry_named path d
  group ← named_or_refusal (group_found d goal)
  _ ← refuse_if (is_id held.group group) AlreadyThere
  entry_moved_to group held now d

-- a group is the parent of another
abbrev pub is_parent : NodeId → Option NodeId → Bool
is_parent u None = false
is_parent u (Some parent) = is_id parent u

-- a group moved from its parent to the end of another's groups; the root has no parent
abbrev pub group_moved_to : NodeId → Tree → ℕ → BareDoc → Result BareDoc TreeFail
group_moved_to group moving now d = do
  _ ← refuse_if (has_group group moving) (IntoItself (id_of moving))
  _ ← refuse_if (nat_lt LEVELS (level_of group d.tree + height moving)) TooDeep
  time ← time_after now (placed_of moving)
  Ok (record d {
    tree = group_moved (unwrap_or (parent_of (id_of moving) d.tree) (id_of d.tree)) group time
        moving d.tree;
  })

-- the group that a path names
abbrev pub group_named : List ℕ → BareDoc → Result Tree TreeFail
group_named path d = named_or_refusal
    (option_and_then (λ id. group_with id d.tree) (group_found d path))

-- `move_group`
abbrev pub after_move_group : List ℕ → List ℕ → ℕ → BareDoc → Result BareDoc TreeFail
after_move_group path goal now d = do
  moving ← group_named path d
  group ← named_or_refusal (group_found d goal)
  _ ← refuse_if (is_parent group (parent_of (id_of moving) d.tree)) AlreadyThere
  _ ← refuse_if (is_id (id_of moving) (id_of d.tree)) RootFixed
  group_moved_to group moving now d

-- ---- nodes that are removed

-- a group is this one or below it, where there is one
abbrev pub has_group_in : NodeId → Option Tree → Bool
has_group_in u None = false
has_group_in u (Some t) = has_group u t

-- recycling is enabled, and the bin's id names no group
abbrev pub needs_bin : BareDoc → Bool
needs_bin d = d.meta.bin.value.enabled && not (has_group d.meta.bin.value.id d.tree)

-- what a database says of itself, with another bin since a time
abbrev pub with_bin : NodeId → ℕ → Meta → Meta
with_bin id time meta = record meta {
  bin = record { changed = time; value = record meta.bin.value { id = id } };
}

-- the document with its bin, which is made where it is missing: the last group of the root
abbrev pub with_bin_made : Option NodeId → ℕ → BareDoc → Result BareDoc TreeFail
with_bin_made None now d = Ok d
with_bin_made (Some id) now d = do
  _ ← refuse_if (not (is_free id d)) (IdTaken id)
  time ← time_after now d.meta.bin.changed
  Ok (record d {
    tree = changed_at (id_of d.tree) (with_group (empty_bin id now)) d.tree;
    meta = with_bin id time d.meta;
  })

-- What became of a node, and the document without it, or with it in the bin.
pub record AfterRemoval : Type 0 where
  pub removed : Removed
  pub doc : BareDoc

-- a document with a node in the bin
abbrev pub after_recycling : BareDoc → Result AfterRemoval TreeFail
after_recycling d = Ok (record { removed = Recycled; doc = d })

-- the bin is this group, or has it below it
abbrev pub is_in_bin : NodeId → BareDoc → Bool
is_in_bin u d = has_group_in u (group_with d.meta.bin.value.id d.tree)

-- a node of this group, or the group itself, goes into the bin and is not deleted
abbrev pub is_recycled : NodeId → BareDoc → Bool
is_recycled u d = d.meta.bin.value.enabled && not (is_in_bin u d)

-- an entry is put into the bin
abbrev pub entry_recycled : Option NodeId → Holding → ℕ → BareDoc → Result AfterRemoval TreeFail
entry_recycled bin held now d = do
  ready ← with_bin_made bin now d
  moved ← entry_moved_to ready.meta.bin.value.id held now ready
  after_recycling moved

-- an entry is deleted
abbrev pub entry_deleted : Holding → ℕ → BareDoc → AfterRemoval
entry_deleted held now d = record {
  removed = Deleted;
  doc = record d {
    tree = changed_at held.group (without_entry held.entry.0) d.tree;
    tombs = entries_buried now (held.entry ∷ []) d.tombs;
  };
}

-- `remove_entry`
abbrev pub after_remove_entry : List ℕ → Option NodeId → ℕ → BareDoc
    → Result AfterRemoval TreeFail
after_remove_entry path bin now d = do
  held ← entry_named path d
  if is_recycled held.group d then entry_recycled bin held now d else Ok (entry_deleted held now d)

-- the level of the bin, also of one that is to be made
abbrev pub bin_level : BareDoc → ℕ
bin_level d =
    if has_group d.meta.bin.value.id d.tree then level_of d.meta.bin.value.id d.tree else 2

-- a group is put into the bin
abbrev pub group_recycled : Option NodeId → Tree → ℕ → BareDoc → Result AfterRemoval TreeFail
group_recycled bin removing now d = do
  _ ← refuse_if (has_group d.meta.bin.value.id removing) (IntoItself (id_of removing))
  _ ← refuse_if (nat_lt LEVELS (bin_level d + height removing)) TooDeep
  ready ← with_bin_made bin now d
  moved ← group_moved_to ready.meta.bin.value.id removing now ready
  after_recycling moved

-- a group is deleted, and all below it
abbrev pub group_deleted : Tree → ℕ → BareDoc → AfterRemoval
group_deleted removing now d = record {
  removed = Deleted;
  doc = record d {
    tree = changed_at (unwrap_or (parent_of (id_of removing) d.tree) (id_of d.tree))
        (without_group (id_of removing)) d.tree;
    tombs = tree_buried now removing d.tombs;
  };
}

-- `remove_group`
abbrev pub after_remove_group : List ℕ → Option NodeId → ℕ → BareDoc
    → Result AfterRemoval TreeFail
after_remove_group path bin now d = do
  removing ← group_named path d
  _ ← refuse_if (is_id (id_of removing) (id_of d.tree)) RootFixed
  if is_recycled (id_of removing) d then group_recycled bin removing now d
      else Ok (group_deleted removing now d)
