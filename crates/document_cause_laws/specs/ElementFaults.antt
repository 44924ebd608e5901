-- Why the elements of a text are refused, as what is so of one of them.
use Rattle.std.specs.Prelude.{◌≡◌, ◌≢◌, ◌⊎◌, ◌≤◌, ℕ, ◌+◌, Bool, true, false, ◌||◌, if◌then◌else◌, Option, Some, None, List, length, codes, option_and_then}
use Rattle.markup_grammar.specs.Attributes.{attribute_text}
use Rattle.markup_grammar.specs.Elements.{Element, Content, element, last, also, cut, own_text}
use Rattle.stream_core.specs.InnerStream.{keystream_byte}
use Rattle.stream_core.specs.Stream.{xor_stream}
use Rattle.text_forms.specs.Texts.{base64_bytes, trim}
use Rattle.vault_model.specs.Db.{NodeId, nil_id}
use Rattle.vault_model.specs.declared.forms.DocForm.{DocForm}
use Rattle.doc_forms.specs.declared.cursor.Cursor.{Cursor}
use Rattle.doc_forms.specs.declared.fails.DocFail.{DocFail}
use Rattle.doc_forms.specs.declared.fails.DocFail.TheVariants.{BadValue, Compressed, MissingElement, NilId, TooDeep, TooMany}
use Rattle.doc_forms.specs.declared.fails.RequiredElement.TheVariants.{Uuid}
use Rattle.doc_forms.specs.Children.{name_of, offset_of}
use Rattle.doc_forms.specs.ElementTexts.{ElementText, Setting, hidden_bytes, is_marked, is_protected, may_hide, plain_text, text_bytes}
use Rattle.doc_forms.specs.Entries.{is_compressed}
use Rattle.doc_forms.specs.Values.{bytes_in, id, number64}
use Rattle.document_cause_laws.specs.ElementKinds.{Kind, ValueForm, attachment_value_kind, binary_kind, child_kind, deep_group_kind, entry_kind, group_kind, history_item_kind, in_own_id, is_of_form, may_stand_once, value_kind}

-- ---- how much has been read

-- the length of bytes, where there are any
abbrev pub length_or_none : Option (List ℕ) → ℕ
length_or_none None = 0
length_or_none (Some bytes) = length bytes

-- whether an element of this kind is a node: a group, an entry or a history item
abbrev pub is_node : Kind → Bool
is_node (group_kind levels) = true
is_node entry_kind = true
is_node history_item_kind = true
is_node _ = false

-- what the end of an element with this text of its own adds: the bytes that it hides
abbrev pub past_text : List ℕ → List ℕ → Cursor → Cursor
past_text raw text cursor =
    if is_protected raw
    then record cursor { offset = cursor.offset + length_or_none (base64_bytes (trim text)) }
    else cursor

-- and one node, if it is one
abbrev pub past_node : Kind → Cursor → Cursor
past_node kind cursor = if is_node kind then record cursor { nodes = cursor.nodes + 1 } else cursor

abbrev mutual
  -- how much has been read after an element of this kind
  pub past_element : DocForm → Kind → Cursor → Element → Cursor
  past_element form kind cursor (element offset name raw content) =
      past_node kind (past_text raw (own_text content) (past_children form kind cursor content))

  -- and after the children of one
  pub past_children : DocForm → Kind → Cursor → Content → Cursor
  past_children form kind cursor (last text) = cursor
  past_children form kind cursor (also text e more) =
      past_children form kind (past_element form (child_kind form kind (name_of e)) cursor e) more
  past_children form kind cursor (cut text answer) = cursor

-- ---- what an element says

-- An element says this at its end, by its own text: the text, or the bytes that it hides.
abbrev pub Says : Setting → Cursor → List ℕ → List ℕ → ElementText → Type 0
Says s cursor raw text said =
    ((is_protected raw ≡ false) × (said ≡ plain_text text))
    ⊎ ((is_protected raw ≡ true) × ((bytes : List ℕ) × (base64_bytes (trim text) ≡ Some bytes)
    × (said ≡ hidden_bytes (xor_stream (keystream_byte s.keystream) cursor.offset bytes))))

-- A hidden text stands where none may be, or is not base64.
abbrev pub HidesWrongly : Setting → List ℕ → List ℕ → Type 0
HidesWrongly s raw text = (is_protected raw ≡ true)
    × ((may_hide s.form ≡ false) ⊎ (base64_bytes (trim text) ≡ None))

-- No child has this name.
abbrev pub HasNone : List ℕ → Content → Type 0
HasNone name (last text) = Unit {0}
HasNone name (also text e more) = (name_of e ≢ name) × HasNone name more
HasNone name (cut text answer) = Unit {0}

-- An element of a node's id says this one.
abbrev pub SaysId : Setting → Cursor → Element → NodeId → Type 0
SaysId s cursor (element offset name raw content) u = (said : ElementText)
    × Says s (past_children s.form (value_kind in_own_id) cursor content) raw (own_text content)
    said
    × (id (trim (text_bytes said)) ≡ Some u)

-- Of the children of a node of this kind the last one that is named `UUID` says this id.
abbrev pub LastSaysId : Setting → Kind → Cursor → Content → NodeId → Type 0
LastSaysId s kind cursor (last text) u = ⊥
LastSaysId s kind cursor (also text e more) u =
    ((name_of e ≡ codes "UUID") × SaysId s cursor e u × HasNone (codes "UUID") more)
    ⊎ LastSaysId s kind (past_element s.form (child_kind s.form kind (name_of e)) cursor e) more u
LastSaysId s kind cursor (cut text answer) u = ⊥

-- ---- the faults of an element itself

-- What a value says is not of its form.
pub record SaysOtherThan (form : ValueForm) (s : Setting) (later : Cursor) (raw text : List ℕ) :
    Type 0 where
  pub said : ElementText
  pub says : Says s later raw text said
  pub other : is_of_form form said ≡ false

-- What an element says is neither base64 nor hidden bytes.
pub record SaysNoBytes (s : Setting) (later : Cursor) (raw text : List ℕ) : Type 0 where
  pub said : ElementText
  pub says : Says s later raw text said
  pub none : bytes_in said ≡ None

-- The `Ref` of an attachment is no whole number of 64 bits; or it has none, and says no bytes.
abbrev pub HasNoSource : Option (List ℕ) → Setting → Cursor → List ℕ → List ℕ → Type 0
HasNoSource None s later raw text = SaysNoBytes s later raw text
HasNoSource (Some ref) s later raw text = number64 ref ≡ None

-- As many nodes have ended as a document may have.
abbrev pub IsFull : Cursor → Type 0
IsFull later = 262144 ≤ later.nodes

-- A node has no id, or the nil id.
abbrev pub LacksId : Setting → Kind → Cursor → ℕ → Content → DocFail → Type 0
LacksId s kind cursor offset content fail =
    ((fail ≡ MissingElement Uuid offset) × HasNone (codes "UUID") content)
    ⊎ ((fail ≡ NilId offset) × LastSaysId s kind cursor content nil_id)

-- The fault of an element of this kind, read with the cursor from its start and from its end on: a
-- value is not of its form, an attachment or a binary has no bytes or number or is compressed, a
-- group is too deep, a node is one too many, or has no id.
abbrev pub OwnFault : Setting → Kind → (cursor later : Cursor) → ℕ → List ℕ → Content → DocFail
    → Type 0
OwnFault s (value_kind form) cursor later offset raw content fail =
    (fail ≡ BadValue offset) × SaysOtherThan form s later raw (own_text content)
OwnFault s attachment_value_kind cursor later offset raw content fail =
    ((fail ≡ BadValue offset)
    × HasNoSource (attribute_text raw (codes "Ref")) s later raw (own_text content))
    ⊎ ((fail ≡ Compressed offset) × (is_compressed raw ≡ true))
OwnFault s binary_kind cursor later offset raw content fail =
    ((fail ≡ BadValue offset)
    × ((option_and_then number64 (attribute_text raw (codes "ID")) ≡ None)
    ⊎ SaysNoBytes s later raw (own_text content)))
    ⊎ ((fail ≡ Compressed offset) × (is_marked (codes "Compressed") raw ≡ true))
OwnFault s deep_group_kind cursor later offset raw content fail = fail ≡ TooDeep offset
OwnFault s (group_kind levels) cursor later offset raw content fail =
    ((fail ≡ TooMany 262145) × IsFull later)
    ⊎ LacksId s (group_kind levels) cursor offset content fail
OwnFault s entry_kind cursor later offset raw content fail =
    ((fail ≡ TooMany 262145) × IsFull later) ⊎ LacksId s entry_kind cursor offset content fail
OwnFault s history_item_kind cursor later offset raw content fail =
    (fail ≡ TooMany 262145) × IsFull later
OwnFault s _ cursor later offset raw content fail = ⊥

-- ---- the faults in an element

abbrev mutual
  -- An element of a kind is refused so: one in it is, or it hides its text wrongly, or it has a
  -- fault of its own.
  pub HasFault : Setting → Kind → Cursor → Element → DocFail → Type 0
  HasFault s kind cursor (element offset name raw content) fail =
      HasFaultIn s kind false cursor content fail
      ⊎ (((fail ≡ BadValue offset) × HidesWrongly s raw (own_text content))
      ⊎ OwnFault s kind cursor (past_children s.form kind cursor content) offset raw content fail)

  -- One of the children of an element of a kind is refused so; or it is the second one of a name
  -- that may stand once, which one before may have had.
  pub HasFaultIn : Setting → Kind → Bool → Cursor → Content → DocFail → Type 0
  HasFaultIn s kind there cursor (last text) fail = ⊥
  HasFaultIn s kind there cursor (also text e more) fail =
      HasFault s (child_kind s.form kind (name_of e)) cursor e fail
      ⊎ (((fail ≡ BadValue (offset_of e)) × (there ≡ true)
      × (may_stand_once kind (name_of e) ≡ true))
      ⊎ HasFaultIn s kind (there || may_stand_once kind (name_of e))
      (past_element s.form (child_kind s.form kind (name_of e)) cursor e) more fail)
  HasFaultIn s kind there cursor (cut text answer) fail = ⊥
