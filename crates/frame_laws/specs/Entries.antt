-- What each command changes, and that all else is as before.
use Rattle.std.specs.Prelude.{◌≡◌, ◌≤◌, ◌<◌, ◌&&◌, ◌||◌, ℕ, ℤ, Bool, true, false, cond, List, [], ◌∷◌, ◌++◌, length, Option, None, Some, Ok, codes, find, is_some}
use Rattle.std.specs.List.{list_any}
use Rattle.std.specs.Ordering.{eq_by_cmp}
use Rattle.std.specs.Str.{bytes_eq}
use Rattle.vault_model.specs.Bare.{BareAttachment, BareContent, BareField}
use Rattle.vault_model.specs.Db.{NodeId}
use Rattle.vault_model.specs.Empty.{new_group}
use Rattle.vault_model.specs.Join.{is_id}
use Rattle.vault_model.specs.Orders.{bytes_cmp}
use Rattle.vault_model.specs.SeenNodes.{entry_time}
use Rattle.vault_model.specs.Shape.{BareVersion, EntryRecord, no_children}
use Rattle.vault_model.specs.Tree.{BareDoc, IsDoc}
use Rattle.tree_core.specs.After.{after_add, after_attach, after_detach, after_edit, after_make_group, after_move_entry, after_restore, attachment_in}
use Rattle.tree_core.specs.Attachments.{attachment_of}
use Rattle.tree_core.specs.Finding.{entry_found, group_at_path, group_found, or_else, without_slashes}
use Rattle.tree_core.specs.FurtherChanges.{FurtherChange, with_expiry}
use Rattle.tree_core.specs.Histories.{is_within, rising_versions, version_numbered, versions_size}
use Rattle.tree_core.specs.NewNodes.{GivenValues, new_entry, new_fields}
use Rattle.tree_core.specs.NewPaths.{after_last, before_last}
use Rattle.tree_core.specs.Tags.{changed_tags}
use Rattle.frame_laws.specs.Frame.{HasLostEntry, HasNewEntry, HasNewGroup, AreSameBut, children_of, entry_of, group_of, no_node, only, either}

-- ---- fields by their keys

-- Whether a key is this one.
abbrev pub is_key : List ℕ → List ℕ → Bool
is_key = eq_by_cmp bytes_cmp

-- the field of a key
abbrev pub field_of : List ℕ → List BareField → Option BareField
field_of key fields = find (λ (f : BareField). is_key key f.key) fields

-- the value that is given for a key, where one is
abbrev pub given_value : GivenValues → List ℕ → Option (List ℕ)
given_value v key =
    cond (is_key key (codes "Title")) v.title
    (cond (is_key key (codes "UserName")) v.user
    (cond (is_key key (codes "Password")) v.password
    (cond (is_key key (codes "URL")) v.url
    (cond (is_key key (codes "Notes")) v.notes
    (cond (is_key key (codes "otp")) v.otp None)))))

-- An empty text for the field `otp` takes it away.
abbrev pub is_taken_away : List ℕ → List ℕ → Bool
is_taken_away key [] = is_key key (codes "otp")
is_taken_away key (b ∷ bs) = false

-- Whether a key is that of the field `otp` and something is given for it.
abbrev pub is_given_otp : GivenValues → List ℕ → Bool
is_given_otp v key = is_key key (codes "otp") && is_some v.otp

-- A field has this value.
pub record HasValue (key value : List ℕ) (fields : List BareField) : Type 0 where
  pub field : BareField
  pub found : field_of key fields ≡ Some field
  pub is : field.value ≡ value

-- A field is there, and marked hidden or not as this says.
pub record HasFlag (key : List ℕ) (hidden : Bool) (fields : List BareField) : Type 0 where
  pub field : BareField
  pub found : field_of key fields ≡ Some field
  pub is : field.hidden ≡ hidden

-- ---- what an entry says anew

-- Versions are within the limits of a history: so many versions, and bytes.
abbrev pub is_within_limits : (items size : ℤ) → List BareVersion → Bool
is_within_limits items size vs = is_within (length vs) items && is_within (versions_size vs) size

-- What the limits of a history leave of versions in rising order: all but the oldest, and none is
-- dropped without need, since with it and those after it the limits would be passed.
pub record IsTrimmed (items size : ℤ) (versions kept : List BareVersion) : Type 0 where
  pub dropped : List BareVersion
  pub is : versions ≡ dropped ++ kept
  pub needed : (front : List BareVersion) (v : BareVersion) (back : List BareVersion)
      → dropped ≡ front ++ v ∷ back → is_within_limits items size (v ∷ back ++ kept) ≡ false

-- An entry has a new current version, where histories have these limits.
pub record HasNewVersion (now : ℕ) (items size : ℤ) (before after : EntryRecord) : Type 0 where
  -- it is where it was, and its previous parent is as before
  pub placed : after.placed ≡ before.placed
  pub previous : after.previous ≡ before.previous
  -- it was changed and looked at now, or a second after its last time where that is later
  pub modified : now ≤ after.current.mark.modified
  pub later : entry_time before < after.current.mark.modified
  pub accessed : after.current.stats.accessed ≡ after.current.mark.modified
  pub usage : after.current.stats.usage ≡ before.current.stats.usage
  -- its history are the versions that it had, but for the oldest ones that its limits drop
  pub history : IsTrimmed items size (rising_versions before) after.history

-- A command changes the one entry that the path names, so that it becomes this of what it was.
pub record ChangesEntry (path : List ℕ)
    (becomes : (items size : ℤ) → (before after : EntryRecord) → Type 0) (d e : BareDoc) : Type 0
  where
    pub entry : NodeId
    pub named : entry_found d path ≡ Some entry
    pub before : EntryRecord
    pub after : EntryRecord
    pub was : entry_of d entry ≡ Some before
    pub is : entry_of e entry ≡ Some after
    pub changed : becomes d.meta.settings.value.history_items d.meta.settings.value.history_size
        before after
    pub rest : AreSameBut (only entry) no_node no_node d e
    pub tombs : e.tombs ≡ d.tombs
    pub meta : e.meta ≡ d.meta

-- ---- edit

-- Whether a field of this key is taken away.
abbrev pub is_unset : FurtherChange → List ℕ → Bool
is_unset further key = list_any (is_key key) further.unset

-- the last value that is given for a key
abbrev pub last_value : List (List ℕ × List ℕ) → List ℕ → Option (List ℕ)
last_value [] key = None
last_value (own ∷ more) key =
    or_else (last_value more key) (cond (is_key key own.0) (Some own.1) None)

-- Whether a field of this key gets a value and is hidden from now on.
abbrev pub is_protected : FurtherChange → List ℕ → Bool
is_protected further key = further.protect && is_some (last_value further.set key)

-- A field of this key neither is taken away nor gets a value.
abbrev pub IsUntouched : FurtherChange → List ℕ → Type 0
IsUntouched further key =
    (is_unset further key ≡ false) × (last_value further.set key ≡ None)

-- What an edit makes of fields.
pub record AreEditedFields (values : GivenValues) (further : FurtherChange)
    (before after : List BareField) : Type 0 where
  -- a field that is to be taken away is gone
  pub unset : (key : List ℕ) → is_unset further key ≡ true → field_of key after ≡ None
  -- else one that gets a value of its own has the last that is given for its name
  pub set : (key value : List ℕ) → is_unset further key ≡ false
      → last_value further.set key ≡ Some value → HasValue key value after
  -- else one for which something is given has that, but for `otp` where it is taken away, which
  -- is gone, and the others are as before
  pub given : (key value : List ℕ) → IsUntouched further key
      → given_value values key ≡ Some value → is_taken_away key value ≡ false
      → HasValue key value after
  pub gone : (key value : List ℕ) → IsUntouched further key
      → given_value values key ≡ Some value → is_taken_away key value ≡ true
      → field_of key after ≡ None
  pub others : (key : List ℕ) → IsUntouched further key → given_value values key ≡ None
      → field_of key after ≡ field_of key before
  -- a field that was there is hidden where it was, or where that is asked for with its value; but
  -- for `otp` where it is given, which is hidden
  pub flags : (key : List ℕ) (old : BareField) → field_of key before ≡ Some old
      → is_unset further key ≡ false → is_given_otp values key ≡ false
      → HasFlag key (old.hidden || is_protected further key) after
  pub hidden : (text : List ℕ) → values.otp ≡ Some text
      → is_taken_away (codes "otp") text ≡ false → is_unset further (codes "otp") ≡ false
      → HasFlag (codes "otp") true after
  -- one that was not there is hidden where that is asked for
  pub new_flags : (key value : List ℕ) → field_of key before ≡ None
      → given_value values key ≡ None → is_unset further key ≡ false
      → last_value further.set key ≡ Some value → HasFlag key further.protect after

-- What an edit makes of an entry, where histories have these limits.
pub record IsEditedEntry (values : GivenValues) (further : FurtherChange) (now : ℕ)
    (items size : ℤ) (before after : EntryRecord) : Type 0 where
  pub version : HasNewVersion now items size before after
  -- the fields that are to be taken away were there
  pub had : (key : List ℕ) → is_unset further key ≡ true
      → is_some (field_of key before.current.mark.content.fields) ≡ true
  pub fields : AreEditedFields values further before.current.mark.content.fields
      after.current.mark.content.fields
  -- its tags are changed, and it expires as it is said; all else that it says is as before: its
  -- time of creation, icons, attachments, colours, typing, custom items
  pub content : after.current.mark.content
      ≡ with_expiry further.expiry (record before.current.mark.content {
        fields = after.current.mark.content.fields;
        tags = changed_tags further.tags further.untags before.current.mark.content.tags;
      })

-- `edit` of a document that gives one edits the entry that the path names, and nothing else.
abbrev pub EditFrames : Type 0
EditFrames = (path : List ℕ) (values : GivenValues) (further : FurtherChange) (now : ℕ)
    (d e : BareDoc) → IsDoc d → IsDoc e → after_edit path values further now d ≡ Ok e
    → ChangesEntry path (IsEditedEntry values further now) d e

-- ---- attach and detach

-- Whether an attachment is hidden under whose name there was this one: one that is new is.
abbrev pub is_hidden_after : Option BareAttachment → Bool
is_hidden_after None = true
is_hidden_after (Some a) = a.hidden

-- The attachments of other names, and all else that an entry says, are as before.
pub record HasOtherAttachment (name : List ℕ) (before after : BareContent) : Type 0 where
  pub others : (other : List ℕ) → bytes_eq other name ≡ false
      → attachment_of other after ≡ attachment_of other before
  pub content : after ≡ record before { attachments = after.attachments }

-- What these bytes under a name make of an entry, where histories have these limits.
pub record IsAttachedEntry (name bytes : List ℕ) (replaces : Bool) (now : ℕ) (items size : ℤ)
    (before after : EntryRecord) : Type 0 where
  pub version : HasNewVersion now items size before after
  -- it had no attachment of the name, but where that was to be replaced
  pub free : replaces ≡ false → attachment_of name before.current.mark.content ≡ None
  -- it has one, with these bytes, which is hidden as it was, or where it is new
  pub attached : attachment_of name after.current.mark.content ≡ Some (record {
    name = name;
    bytes = bytes;
    hidden = is_hidden_after (attachment_of name before.current.mark.content);
  })
  pub rest : HasOtherAttachment name before.current.mark.content after.current.mark.content

-- `attach` to a document that gives one changes the attachment of a name of the entry that the path
-- names, and nothing else.
abbrev pub AttachFrames : Type 0
AttachFrames = (path name bytes : List ℕ) (replaces : Bool) (now : ℕ) (d e : BareDoc) → IsDoc d
    → IsDoc e → after_attach path name bytes replaces now d ≡ Ok e
    → ChangesEntry path (IsAttachedEntry name bytes replaces now) d e

-- What becomes of an entry without its attachment of a name, where histories have these limits.
pub record IsDetachedEntry (name : List ℕ) (now : ℕ) (items size : ℤ)
    (before after : EntryRecord) : Type 0 where
  pub version : HasNewVersion now items size before after
  -- it had an attachment of the name, and has none
  pub there : is_some (attachment_of name before.current.mark.content) ≡ true
  pub gone : attachment_of name after.current.mark.content ≡ None
  pub rest : HasOtherAttachment name before.current.mark.content after.current.mark.content

-- `detach` from a document that gives one takes the attachment of a name from the entry that the
-- path names, and changes nothing else.
abbrev pub DetachFrames : Type 0
DetachFrames = (path name : List ℕ) (now : ℕ) (d e : BareDoc) → IsDoc d → IsDoc e
    → after_detach path name now d ≡ Ok e → ChangesEntry path (IsDetachedEntry name now) d e

-- What is attached is what is taken out.
abbrev pub ExportGivesImported : Type 0
ExportGivesImported = (path name bytes : List ℕ) (replaces : Bool) (now : ℕ) (d e : BareDoc)
    → IsDoc d → IsDoc e → after_attach path name bytes replaces now d ≡ Ok e
    → (a : BareAttachment) × ((attachment_in path name e ≡ Ok a) × (a.bytes ≡ bytes))

-- ---- restore

-- What restoring its version of a number makes of an entry, where histories have these limits.
pub record IsRestoredEntry (number now : ℕ) (items size : ℤ) (before after : EntryRecord) : Type 0
  where
    pub version : HasNewVersion now items size before after
    -- what it says is what its version of this number said
    pub old : BareVersion
    pub numbered : version_numbered number before ≡ Some old
    pub content : after.current.mark.content ≡ old.mark.content

-- `restore` of a document that gives one restores the entry that the path names, and changes
-- nothing else.
abbrev pub RestoreFrames : Type 0
RestoreFrames = (path : List ℕ) (number now : ℕ) (d e : BareDoc) → IsDoc d → IsDoc e
    → after_restore path number now d ≡ Ok e → ChangesEntry path (IsRestoredEntry number now) d e

-- ---- move

-- An entry is moved from one group to the end of another.
pub record EntryMoves (entry from to : NodeId) (now : ℕ) (d e : BareDoc) : Type 0 where
  pub apart : is_id from to ≡ false
  pub before : EntryRecord
  pub time : ℕ
  pub was : entry_of d entry ≡ Some before
  pub is : entry_of e entry ≡ Some (record before { placed = time; previous = from })
  pub late : now ≤ time
  pub later : before.placed < time
  pub lost : HasLostEntry from entry d e
  pub new : HasNewEntry to entry d e
  pub rest : AreSameBut (only entry) no_node (either from to) d e
  pub tombs : e.tombs ≡ d.tombs
  pub meta : e.meta ≡ d.meta

-- A move moves the entry that one path names to the group that another names.
pub record MovesEntry (path goal : List ℕ) (now : ℕ) (d e : BareDoc) : Type 0 where
  pub entry : NodeId
  pub from : NodeId
  pub to : NodeId
  pub named : entry_found d path ≡ Some entry
  pub aimed : group_found d goal ≡ Some to
  pub moved : EntryMoves entry from to now d e

-- `mv` of an entry moves the entry that the path names, and nothing else.
abbrev pub MoveEntryFrames : Type 0
MoveEntryFrames = (path goal : List ℕ) (now : ℕ) (d e : BareDoc) → IsDoc d → IsDoc e
    → after_move_entry path goal now d ≡ Ok e → MovesEntry path goal now d e

-- ---- add and mkdir

-- A new entry has the given id, and is the last of the group that the path names before its last
-- slash.
pub record AddsEntry (path : List ℕ) (id : NodeId) (values : GivenValues) (now : ℕ) (d e : BareDoc)
    : Type 0 where
  pub group : NodeId
  pub named : group_at_path d (before_last path) ≡ Some group
  pub no_entry : entry_of d id ≡ None
  pub no_group : group_of d id ≡ None
  pub is : entry_of e id ≡ Some
      (new_entry (new_fields d.meta.settings.value.protect (after_last path) values) now)
  pub new : HasNewEntry group id d e
  pub rest : AreSameBut (only id) no_node (only group) d e
  pub tombs : e.tombs ≡ d.tombs
  pub meta : e.meta ≡ d.meta

-- `add` adds one entry, and changes nothing else.
abbrev pub AddFrames : Type 0
AddFrames = (path : List ℕ) (id : NodeId) (values : GivenValues) (now : ℕ) (d e : BareDoc)
    → IsDoc d → IsDoc e → after_add path id values now d ≡ Ok e → AddsEntry path id values now d e

-- A new group has the given id and no children, and is the last of the group that the path names
-- before its last slash.
pub record MakesGroup (path : List ℕ) (id : NodeId) (now : ℕ) (d e : BareDoc) : Type 0 where
  pub group : NodeId
  pub named : group_at_path d (before_last path) ≡ Some group
  pub no_entry : entry_of d id ≡ None
  pub no_group : group_of d id ≡ None
  pub is : group_of e id ≡ Some (new_group (after_last path) now)
  pub empty : children_of e id ≡ Some no_children
  pub new : HasNewGroup group id d e
  pub rest : AreSameBut no_node (only id) (either group id) d e
  pub tombs : e.tombs ≡ d.tombs
  pub meta : e.meta ≡ d.meta

-- `mkdir` makes one group, and changes nothing else.
abbrev pub MakeGroupFrames : Type 0
MakeGroupFrames = (path : List ℕ) (id : NodeId) (now : ℕ) (d e : BareDoc) → IsDoc d → IsDoc e
    → after_make_group path id now d ≡ Ok e → MakesGroup (without_slashes path) id now d e
