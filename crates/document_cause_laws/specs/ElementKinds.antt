-- What is due where in a document: the kind of each element, by its name and the kind of the
-- element round it.
use Rattle.std.specs.Prelude.{ℕ, ◌-◌, ◌==◌, Bool, false, ◌||◌, if◌then◌else◌, is_some, List, [], ◌∷◌, length, codes, bytes_eq}
use Rattle.text_forms.specs.Texts.{bytes_of_length, trim}
use Rattle.vault_model.specs.declared.forms.DocForm.{DocForm}
use Rattle.vault_model.specs.declared.forms.DocForm.TheVariants.{V4}
use Rattle.doc_forms.specs.ElementTexts.{ElementText, text_bytes}
use Rattle.doc_forms.specs.Values.{boolean, bytes_in, choice, id, number32, number64, signed32, signed64, text_in, time}

-- What the text of a value may be.
pub data ValueForm : Type 0 where
  -- UTF-8
  in_text : ValueForm
  -- base64, or any bytes that are hidden
  in_bytes : ValueForm
  -- the base64 of 16 bytes
  in_own_id : ValueForm
  -- without white space at its ends, nothing, or: the base64 of 16 bytes
  in_id : ValueForm
  -- the base64 of 32 bytes
  in_hash : ValueForm
  -- `True` or `False`
  in_boolean : ValueForm
  -- `True`, `False` or `null`
  in_choice : ValueForm
  -- a whole number of 32 bits or 64, from 0 on or with a sign
  in_number32 : ValueForm
  in_number64 : ValueForm
  in_signed32 : ValueForm
  in_signed64 : ValueForm
  -- a time in either form
  in_time : ValueForm

-- whether what an element says is nothing but white space, or follows the rule
abbrev pub is_empty_or : (List ℕ → Bool) → ElementText → Bool
is_empty_or rule said = (length (trim (text_bytes said)) == 0) || rule (trim (text_bytes said))

-- whether what an element says is of the form
abbrev pub is_of_form : ValueForm → ElementText → Bool
is_of_form in_text said = is_some (text_in said)
is_of_form in_bytes said = is_some (bytes_in said)
is_of_form in_own_id said = is_some (id (trim (text_bytes said)))
is_of_form in_id said = is_empty_or (λ text. is_some (id text)) said
is_of_form in_hash said = is_empty_or (λ text. is_some (bytes_of_length 32 text)) said
is_of_form in_boolean said = is_empty_or (λ text. is_some (boolean text)) said
is_of_form in_choice said = is_empty_or (λ text. is_some (choice text)) said
is_of_form in_number32 said = is_empty_or (λ text. is_some (number32 text)) said
is_of_form in_number64 said = is_empty_or (λ text. is_some (number64 text)) said
is_of_form in_signed32 said = is_empty_or (λ text. is_some (signed32 text)) said
is_of_form in_signed64 said = is_empty_or (λ text. is_some (signed64 text)) said
is_of_form in_time said = is_empty_or (λ text. is_some (time text)) said

-- What an element is by its place.
pub data Kind : Type 0 where
  -- what is round the outermost element
  text_kind : Kind
  -- `KeePassFile`, `Root`, and the tombstones in it
  file_kind : Kind
  root_kind : Kind
  tombs_kind : Kind
  tomb_kind : Kind
  -- `Meta`, and what is in it
  meta_kind : Kind
  protection_kind : Kind
  icons_kind : Kind
  icon_kind : Kind
  binaries_kind : Kind
  binary_kind : Kind
  -- a group, below which so many levels are allowed; and one where none is
  group_kind : ℕ → Kind
  deep_group_kind : Kind
  -- an entry, its history and an item of it, and what is in them
  entry_kind : Kind
  history_kind : Kind
  history_item_kind : Kind
  field_kind : Kind
  attachment_kind : Kind
  attachment_value_kind : Kind
  auto_type_kind : Kind
  association_kind : Kind
  -- times, and custom items
  times_kind : Kind
  items_kind : Kind
  item_kind : Kind
  -- a value whose text is of a form
  value_kind : ValueForm → Kind
  -- an element that is passed over
  unknown_kind : Kind

-- ---- the children of each kind

-- Names, and the kind of the children of each.
abbrev pub Names : Type 0
Names = List (List ℕ × Kind)

-- how an entry or a history item is typed, its custom items, times, fields and attachments
abbrev pub part_names : Names
part_names =
    (codes "Times", times_kind)
    ∷ (codes "String", field_kind)
    ∷ (codes "Binary", attachment_kind)
    ∷ (codes "AutoType", auto_type_kind)
    ∷ (codes "CustomData", items_kind)
    ∷ []

-- what an entry and a history item have in common, except for the id
abbrev pub version_names : Names
version_names =
    (codes "IconID", value_kind in_number32)
    ∷ (codes "CustomIconUUID", value_kind in_id)
    ∷ (codes "QualityCheck", value_kind in_boolean)
    ∷ (codes "ForegroundColor", value_kind in_text)
    ∷ (codes "BackgroundColor", value_kind in_text)
    ∷ (codes "OverrideURL", value_kind in_text)
    ∷ (codes "Tags", value_kind in_text)
    ∷ part_names

-- a group, except for the groups in it
abbrev pub group_names : Names
group_names =
    (codes "UUID", value_kind in_own_id)
    ∷ (codes "Name", value_kind in_text)
    ∷ (codes "Notes", value_kind in_text)
    ∷ (codes "Tags", value_kind in_text)
    ∷ (codes "IconID", value_kind in_number32)
    ∷ (codes "CustomIconUUID", value_kind in_id)
    ∷ (codes "Times", times_kind)
    ∷ (codes "IsExpanded", value_kind in_boolean)
    ∷ (codes "DefaultAutoTypeSequence", value_kind in_text)
    ∷ (codes "EnableAutoType", value_kind in_choice)
    ∷ (codes "EnableSearching", value_kind in_choice)
    ∷ (codes "LastTopVisibleEntry", value_kind in_id)
    ∷ (codes "PreviousParentGroup", value_kind in_id)
    ∷ (codes "CustomData", items_kind)
    ∷ (codes "Entry", entry_kind)
    ∷ []

-- `Binaries`, which is unknown where the file keeps them apart
abbrev pub binaries_names : DocForm → Names
binaries_names V4 = []
binaries_names _ = (codes "Binaries", binaries_kind) ∷ []

-- `Meta`
abbrev pub meta_names : DocForm → Names
meta_names form =
    (codes "Generator", value_kind in_text)
    ∷ (codes "HeaderHash", value_kind in_hash)
    ∷ (codes "SettingsChanged", value_kind in_time)
    ∷ (codes "DatabaseName", value_kind in_text)
    ∷ (codes "DatabaseNameChanged", value_kind in_time)
    ∷ (codes "DatabaseDescription", value_kind in_text)
    ∷ (codes "DatabaseDescriptionChanged", value_kind in_time)
    ∷ (codes "DefaultUserName", value_kind in_text)
    ∷ (codes "DefaultUserNameChanged", value_kind in_time)
    ∷ (codes "MaintenanceHistoryDays", value_kind in_number32)
    ∷ (codes "Color", value_kind in_text)
    ∷ (codes "MasterKeyChanged", value_kind in_time)
    ∷ (codes "MasterKeyChangeRec", value_kind in_signed64)
    ∷ (codes "MasterKeyChangeForce", value_kind in_signed64)
    ∷ (codes "MasterKeyChangeForceOnce", value_kind in_boolean)
    ∷ (codes "MemoryProtection", protection_kind)
    ∷ (codes "CustomIcons", icons_kind)
    ∷ (codes "RecycleBinEnabled", value_kind in_boolean)
    ∷ (codes "RecycleBinUUID", value_kind in_id)
    ∷ (codes "RecycleBinChanged", value_kind in_time)
    ∷ (codes "EntryTemplatesGroup", value_kind in_id)
    ∷ (codes "EntryTemplatesGroupChanged", value_kind in_time)
    ∷ (codes "LastSelectedGroup", value_kind in_id)
    ∷ (codes "LastTopVisibleGroup", value_kind in_id)
    ∷ (codes "HistoryMaxItems", value_kind in_signed32)
    ∷ (codes "HistoryMaxSize", value_kind in_signed64)
    ∷ (codes "CustomData", items_kind)
    ∷ binaries_names form

-- a group in a group, below which so many levels are allowed
abbrev pub inner_group_kind : ℕ → Kind
inner_group_kind levels = if levels == 0 then deep_group_kind else group_kind (levels - 1)

-- the children of a kind that are known
abbrev pub names_in : DocForm → Kind → Names
names_in form text_kind = (codes "KeePassFile", file_kind) ∷ []
names_in form file_kind = (codes "Meta", meta_kind) ∷ (codes "Root", root_kind) ∷ []
names_in form root_kind = (codes "Group", group_kind 127) ∷ (codes "DeletedObjects", tombs_kind) ∷
    []
names_in form tombs_kind = (codes "DeletedObject", tomb_kind) ∷ []
names_in form tomb_kind =
    (codes "UUID", value_kind in_id) ∷ (codes "DeletionTime", value_kind in_time) ∷ []
names_in form meta_kind = meta_names form
names_in form protection_kind =
    (codes "ProtectTitle", value_kind in_boolean)
    ∷ (codes "ProtectUserName", value_kind in_boolean)
    ∷ (codes "ProtectPassword", value_kind in_boolean)
    ∷ (codes "ProtectURL", value_kind in_boolean)
    ∷ (codes "ProtectNotes", value_kind in_boolean)
    ∷ []
names_in form icons_kind = (codes "Icon", icon_kind) ∷ []
names_in form icon_kind =
    (codes "UUID", value_kind in_id)
    ∷ (codes "Data", value_kind in_bytes)
    ∷ (codes "Name", value_kind in_text)
    ∷ (codes "LastModificationTime", value_kind in_time)
    ∷ []
names_in form binaries_kind = (codes "Binary", binary_kind) ∷ []
names_in form (group_kind levels) = (codes "Group", inner_group_kind levels) ∷ group_names
names_in form entry_kind =
    (codes "UUID", value_kind in_own_id)
    ∷ (codes "History", history_kind)
    ∷ (codes "PreviousParentGroup", value_kind in_id)
    ∷ version_names
names_in form history_kind = (codes "Entry", history_item_kind) ∷ []
names_in form history_item_kind =
    (codes "UUID", value_kind in_id)
    ∷ (codes "PreviousParentGroup", value_kind in_id)
    ∷ version_names
names_in form field_kind =
    (codes "Key", value_kind in_text) ∷ (codes "Value", value_kind in_text) ∷ []
names_in form attachment_kind =
    (codes "Key", value_kind in_text) ∷ (codes "Value", attachment_value_kind) ∷ []
names_in form auto_type_kind =
    (codes "Enabled", value_kind in_boolean)
    ∷ (codes "DataTransferObfuscation", value_kind in_number32)
    ∷ (codes "DefaultSequence", value_kind in_text)
    ∷ (codes "Association", association_kind)
    ∷ []
names_in form association_kind =
    (codes "Window", value_kind in_text) ∷ (codes "KeystrokeSequence", value_kind in_text) ∷ []
names_in form times_kind =
    (codes "LastModificationTime", value_kind in_time)
    ∷ (codes "CreationTime", value_kind in_time)
    ∷ (codes "LastAccessTime", value_kind in_time)
    ∷ (codes "ExpiryTime", value_kind in_time)
    ∷ (codes "Expires", value_kind in_boolean)
    ∷ (codes "UsageCount", value_kind in_number64)
    ∷ (codes "LocationChanged", value_kind in_time)
    ∷ []
names_in form items_kind = (codes "Item", item_kind) ∷ []
names_in form item_kind =
    (codes "Key", value_kind in_text)
    ∷ (codes "Value", value_kind in_text)
    ∷ (codes "LastModificationTime", value_kind in_time)
    ∷ []
names_in form _ = []

-- the kind that goes with a name; a child without one is passed over
abbrev pub kind_named : Names → List ℕ → Kind
kind_named [] name = unknown_kind
kind_named (row ∷ rows) name = if bytes_eq name row.0 then row.1 else kind_named rows name

-- the kind of a child of this name
abbrev pub child_kind : DocForm → Kind → List ℕ → Kind
child_kind form kind name = kind_named (names_in form kind) name

-- whether at most one child of this name may be there: `Root`, and the root group
abbrev pub may_stand_once : Kind → List ℕ → Bool
may_stand_once file_kind name = bytes_eq name (codes "Root")
may_stand_once root_kind name = bytes_eq name (codes "Group")
may_stand_once _ name = false
