-- Entries: what their elements say.
use Rattle.std.specs.Prelude.{ℕ, Bool, true, false, ◌&&◌, if◌then◌else◌, is_none, Option, Some, None, List, [], ◌∷◌, ◌++◌, codes, option_map, Result, Ok, Err, bytes_eq}
use Rattle.text_forms.specs.MarkupGrammar.Attributes.{attribute_text}
use Rattle.text_forms.specs.MarkupGrammar.Elements.{Content, element}
use Rattle.text_forms.specs.Texts.{trim}
use Rattle.vault_model.specs.Bare.{BareField, BareContent}
use Rattle.vault_model.specs.Db.{NodeId, nil_id}
use Rattle.vault_model.specs.declared.contents.Association.{Association}
use Rattle.vault_model.specs.declared.contents.AutoType.{AutoType}
use Rattle.vault_model.specs.declared.contents.Stats.{Stats}
use Rattle.doc_forms.specs.declared.cursor.Cursor.{Cursor}
use Rattle.doc_forms.specs.declared.fails.DocFail.{DocFail}
use Rattle.doc_forms.specs.declared.fails.DocFail.TheVariants.{Compressed, NilId, MissingElement}
use Rattle.doc_forms.specs.declared.fails.RequiredElement.TheVariants.{Uuid}
use Rattle.doc_forms.specs.declared.times.Times.{Times}
use Rattle.doc_forms.specs.Children.{Child, by_name, value, hidden_value, children_and_end, container, count_node}
use Rattle.doc_forms.specs.ElementTexts.{ElementText, Setting, text_bytes, is_marked, is_hidden, read_element}
use Rattle.stream_core.specs.OutsideCore.Results.{◌>>=◌}
use Rattle.doc_forms.specs.Refusals.{checked_value}
use Rattle.doc_forms.specs.Tables.{put, no_times, times, custom_data}
use Rattle.doc_forms.specs.Values.{text_in, bytes_in, value_or, id, boolean, number32, number64}

-- ---- fields and attachments

-- a field of which nothing is known
abbrev pub no_field : BareField
no_field = record { key = []; value = []; hidden = false }

-- the children of `String`
abbrev pub field_rows : Setting → List (List ℕ × Child BareField)
field_rows s =
    (codes "Key", value s text_in (λ p v. record p { key = v }))
    ∷ (codes "Value", hidden_value s text_in (λ p v h. record p { value = v; hidden = h }))
    ∷ []

-- Where an attachment's bytes are: in its own element, or in the binary of a number, to which the
-- element at an offset refers.
pub data ReadSource : Type 0 where
  own_bytes : List ℕ → ReadSource
  pool_number : ℕ → ℕ → ReadSource

-- An attachment before its bytes are resolved.
pub record ReadAttachment : Type 0 where
  pub name : List ℕ
  pub source : ReadSource
  pub hidden : Bool

-- an attachment of which nothing is known
abbrev pub no_attachment : ReadAttachment
no_attachment = record { name = []; source = own_bytes []; hidden = false }

-- the bytes of an attachment: those of its `Ref`, a whole number of 64 bits, or else its own
abbrev pub source_in : ℕ → Option (List ℕ) → ElementText → Option ReadSource
source_in offset None x = option_map own_bytes (bytes_in x)
source_in offset (Some ref) x = option_map (pool_number offset) (number64 ref)

-- an attachment's own bytes that are marked as compressed
abbrev pub is_compressed : List ℕ → Bool
is_compressed raw = is_none (attribute_text raw (codes "Ref")) && is_marked (codes "Compressed") raw

-- the `Value` of an attachment
abbrev pub attachment_value : Setting → Child ReadAttachment
attachment_value s attachment (element offset name raw content) cursor = do
  x ← read_element s (element offset name raw content) cursor
  source ← checked_value offset (source_in offset (attribute_text raw (codes "Ref")) x.0)
  if is_compressed raw then Err (Compressed offset)
      else Ok (record attachment { source = source; hidden = is_hidden raw }, x.1)

-- the children of an entry's `Binary`
abbrev pub attachment_rows : Setting → List (List ℕ × Child ReadAttachment)
attachment_rows s =
    (codes "Key", value s text_in (λ p v. record p { name = v }))
    ∷ (codes "Value", attachment_value s)
    ∷ []

-- ---- auto-type

-- how an entry is typed where no element says it
abbrev pub no_auto_type : AutoType
no_auto_type = record { enabled = true; obfuscation = 0; sequence = []; pairs = [] }

-- an association of which nothing is known
abbrev pub no_association : Association
no_association = record { window = []; keys = [] }

-- the children of `Association`
abbrev pub association_rows : Setting → List (List ℕ × Child Association)
association_rows s =
    (codes "Window", value s text_in (λ p v. record p { window = v }))
    ∷ (codes "KeystrokeSequence", value s text_in (λ p v. record p { keys = v }))
    ∷ []

-- one association more, after the others
abbrev pub with_association : AutoType → Association → AutoType
with_association p pair = record p { pairs = p.pairs ++ pair ∷ [] }

-- the children of `AutoType`
abbrev pub auto_type_rows : Setting → List (List ℕ × Child AutoType)
auto_type_rows s =
    (codes "Enabled", value s (value_or true boolean) (λ p v. record p { enabled = v }))
    ∷ (
      codes "DataTransferObfuscation",
      value s (value_or 0 number32)
          (λ p v. record p { obfuscation = v }),
    )
    ∷ (codes "DefaultSequence", value s text_in (λ p v. record p { sequence = v }))
    ∷ (codes "Association", container s (association_rows s) no_association with_association)
    ∷ []

-- ---- versions

-- A version of an entry before the bytes of its attachments are resolved: what it says without
-- them, and these.
pub record ReadVersion : Type 0 where
  pub modified : ℕ
  pub content : BareContent
  pub attachments : List ReadAttachment
  pub stats : Stats

-- What is known of an entry, or of a history item, before its end.
pub record EntryParts : Type 0 where
  pub id : Option NodeId
  pub previous : NodeId
  pub times : Times
  pub content : BareContent
  pub attachments : List ReadAttachment
  pub history : List ReadVersion

-- the content of an entry of which nothing is known
abbrev pub no_content : BareContent
no_content = record {
  created = 0;
  expiry = 0;
  expires = false;
  icon = 0;
  custom_icon = None;
  fields = [];
  attachments = [];
  tags = [];
  fore = [];
  back = [];
  url_override = [];
  auto_type = no_auto_type;
  items = [];
  quality = true;
}

-- an entry of which nothing is known
abbrev pub no_entry : EntryParts
no_entry = record {
  id = None;
  previous = nil_id;
  times = no_times;
  content = no_content;
  attachments = [];
  history = [];
}

-- what is known with its content changed
abbrev pub with_content : (BareContent → BareContent) → EntryParts → EntryParts
with_content change p = record p { content = change p.content }

-- an id that may be left empty
abbrev pub id_or_none : ElementText → Option (Option NodeId)
id_or_none x = value_or None (λ text. option_map Some (id text)) x

-- what is known with one field more
abbrev pub with_field : EntryParts → BareField → EntryParts
with_field p f = with_content (λ c. record c { fields = put (λ (g : BareField). g.key) f c.fields })
    p

-- what is known with one attachment more
abbrev pub with_attachment : EntryParts → ReadAttachment → EntryParts
with_attachment p a =
    record p { attachments = put (λ (b : ReadAttachment). b.name) a p.attachments }

-- how an entry or a history item is typed, and its custom items
abbrev pub held_rows : Setting → List (List ℕ × Child EntryParts)
held_rows s = (
  codes "AutoType",
  container s (auto_type_rows s) no_auto_type
      (λ p v. with_content (λ c. record c { auto_type = v }) p),
)
    ∷ (codes "CustomData", custom_data s (λ p v. with_content (λ c. record c { items = v }) p))
    ∷ []

-- its times, fields and attachments, and these
abbrev pub part_rows : Setting → List (List ℕ × Child EntryParts)
part_rows s =
    (codes "Times", times s (λ p v. record p { times = v }))
    ∷ (codes "String", container s (field_rows s) no_field with_field)
    ∷ (codes "Binary", container s (attachment_rows s) no_attachment with_attachment)
    ∷ held_rows s

-- whether it counts in reports, its texts, and these
abbrev pub text_rows : Setting → List (List ℕ × Child EntryParts)
text_rows s = (
  codes "QualityCheck",
  value s (value_or true boolean) (λ p v. with_content (λ c. record c { quality = v }) p),
)
    ∷ (
      codes "ForegroundColor",
      value s text_in (λ p v. with_content (λ c. record c { fore = v }) p),
    )
    ∷ (
      codes "BackgroundColor",
      value s text_in
          (λ p v. with_content (λ c. record c { back = v }) p),
    )
    ∷ (
      codes "OverrideURL",
      value s text_in (λ p v. with_content
          (λ c. record c { url_override = v }) p),
    )
    ∷ (codes "Tags", value s text_in (λ p v. with_content (λ c. record c { tags = v }) p))
    ∷ part_rows s

-- the children that an entry and a history item have in common, except for the id
abbrev pub version_rows : Setting → List (List ℕ × Child EntryParts)
version_rows s = (
  codes "IconID",
  value s (value_or 0 number32)
      (λ p v. with_content (λ c. record c { icon = v }) p),
)
    ∷ (
      codes "CustomIconUUID",
      value s id_or_none
          (λ p v. with_content (λ c. record c { custom_icon = v }) p),
    )
    ∷ text_rows s

-- the version that the parts of an entry make
abbrev pub version_of : EntryParts → ReadVersion
version_of p = record {
  modified = p.times.modified;
  content = record p.content {
    created = p.times.created;
    expiry = p.times.expiry;
    expires = p.times.expires;
  };
  attachments = p.attachments;
  stats = record { accessed = p.times.accessed; usage = p.times.usage };
}

-- ---- history

-- the previous parent of an entry or a history item
abbrev pub previous_row : Setting → (EntryParts → NodeId → EntryParts)
    → List ℕ × Child EntryParts
previous_row s keep = (codes "PreviousParentGroup", value s (value_or nil_id id) keep)

-- the children of a history item: its id, the time of its place and its previous parent are read,
-- and not kept
abbrev pub history_item_rows : Setting → List (List ℕ × Child EntryParts)
history_item_rows s =
    (codes "UUID", value s id_or_none (λ p v. p)) ∷ previous_row s (λ p v. p) ∷ version_rows s

-- a history item that begins at an offset
abbrev pub history_item_at : Setting → ℕ → List ℕ → Content → Cursor
    → Result (ReadVersion × Cursor) DocFail
history_item_at s offset raw content cursor = do
  x ← children_and_end s (by_name s (history_item_rows s)) offset raw [] content no_entry cursor
  after ← count_node x.1
  Ok (version_of x.0, after)

-- the same, after those before it
abbrev pub history_item : Setting → Child (List ReadVersion)
history_item s history (element offset name raw content) cursor =
    history_item_at s offset raw content cursor >>= λ x. Ok (history ++ x.0 ∷ [], x.1)

-- the children of `History`
abbrev pub history_rows : Setting → List (List ℕ × Child (List ReadVersion))
history_rows s = (codes "Entry", history_item s) ∷ []

-- `History`: the last one counts as a whole
abbrev pub history : Setting → Child EntryParts
history s = container s (history_rows s) [] (λ p v. record p { history = v })

-- ---- entries

-- An entry before the bytes of its attachments are resolved.
pub record ReadEntry : Type 0 where
  pub id : NodeId
  pub placed : ℕ
  pub previous : NodeId
  pub current : ReadVersion
  pub history : List ReadVersion

-- the id of a node that begins at the offset: there must be one, and not the nil id
abbrev pub node_id : ℕ → Option NodeId → Result NodeId DocFail
node_id offset None = Err (MissingElement Uuid offset)
node_id offset (Some u) = if bytes_eq u nil_id then Err (NilId offset) else Ok u

-- the id of a node must not be left empty
abbrev pub own_id : {P : Type 0} → Setting → (P → NodeId → P) → Child P
own_id s keep = value s (λ x. id (trim (text_bytes x))) keep

-- the children of an entry
abbrev pub entry_rows : Setting → List (List ℕ × Child EntryParts)
entry_rows s =
    (codes "UUID", own_id s (λ p u. record p { id = Some u }))
    ∷ (codes "History", history s)
    ∷ previous_row s (λ p v. record p { previous = v })
    ∷ version_rows s

-- the entry of an id that the parts make
abbrev pub entry_of : NodeId → EntryParts → ReadEntry
entry_of u p = record {
  id = u;
  placed = p.times.placed;
  previous = p.previous;
  current = version_of p;
  history = p.history;
}

-- an entry that begins at an offset
abbrev pub entry_at : Setting → ℕ → List ℕ → Content → Cursor → Result (ReadEntry × Cursor) DocFail
entry_at s offset raw content cursor = do
  x ← children_and_end s (by_name s (entry_rows s)) offset raw [] content no_entry cursor
  after ← count_node x.1
  u ← node_id offset x.0.id
  Ok (entry_of u x.0, after)

-- the same, kept with what is known of its parent
abbrev pub entry : {P : Type 0} → Setting → (P → ReadEntry → P) → Child P
entry s keep parts (element offset name raw content) cursor =
    entry_at s offset raw content cursor >>= λ x. Ok (keep parts x.0, x.1)
