-- What is read of an entry is kept: its texts are UTF-8, and keys and names rise.
use Rattle.std.proofs.Common.{◌≡◌, ℕ, Bool, true, false, not, cond, ◌&&◌, Option, Some, None, List, [], ◌∷◌, ◌++◌, codes, Ok, Err, IfOk, ap, refl, bytes_eq}
use lib.Utf8.{encode}
use Rattle.std.specs.List.{list_all}
use Rattle.std.specs.Str.{is_utf8, chars}
use Rattle.markup_grammar.specs.Attributes.{attribute_text}
use Rattle.markup_grammar.specs.Elements.{Content, element}
use Rattle.vault_model.specs.Bare.{BareAttachment, BareContent, BareField}
use Rattle.vault_model.specs.Db.{NodeId, nil_id}
use Rattle.vault_model.specs.Proper.{is_proper_content, is_text_field, is_text_item, is_text_typing}
use Rattle.vault_model.specs.declared.contents.Association.{Association}
use Rattle.vault_model.specs.declared.contents.AutoType.{AutoType}
use Rattle.vault_model.specs.declared.contents.Item.{Item}
use Rattle.vault_model.proofs.Tests.{and_both}
use Rattle.doc_forms.specs.declared.cursor.Cursor.{Cursor}
use Rattle.doc_forms.specs.declared.fails.DocFail.TheVariants.{Compressed, NilId}
use Rattle.doc_forms.specs.declared.times.Times.{Times}
use Rattle.doc_forms.specs.Entries.{attachment_rows}
use Rattle.doc_forms.specs.Entries.{EntryParts, ReadAttachment, ReadEntry, ReadVersion, association_rows, attachment_value, auto_type_rows, entry, entry_at, entry_of, entry_rows, field_rows, history, history_item, history_item_at, history_item_rows, history_rows, id_or_none, is_compressed, no_association, no_attachment, no_auto_type, no_entry, no_field, node_id, own_id, source_in, version_of, version_rows}
use Rattle.doc_forms.specs.KeptParts.{is_kept_entry, is_kept_version}
use Rattle.doc_forms.specs.Children.{by_name, children_and_end, count_node}
use Rattle.doc_forms.specs.ElementTexts.{Setting, is_hidden, read_element}
use Rattle.doc_forms.specs.Refusals.{checked_value}
use Rattle.doc_forms.specs.Tables.{custom_data, item_rows, items_rows, no_item, no_times, put, times_rows, times}
use Rattle.doc_forms.specs.Values.{text_in}
use Rattle.doc_read.proofs.Keeping.{◌&◌, step_and_next, any_and_next, either_step, Keeps, Rows, element_keeps, container_keeps, hidden_value_keeps, is_text, text_row, any_row, any_container}
use Rattle.doc_read.proofs.Rising.{all_later, Rising, one_more}

-- no text at all is UTF-8
pub empty_text : is_utf8 [] ≡ true
unfolding is_utf8 chars encode
empty_text = refl

-- ---- times and custom items

-- custom items rise by key, and are texts
abbrev pub KeptItems : List Item → Type 0
KeptItems items = Rising (λ (i : Item). i.key) is_text_item items

abbrev IsTextItem : Item → Type 0
IsTextItem i = (is_utf8 i.key ≡ true) × (is_utf8 i.value ≡ true)

item_kept : (s : Setting) → Rows IsTextItem (item_rows s)
item_kept s =
    text_row IsTextItem s _ (λ p v g u. (u, g.1)) & text_row IsTextItem s _ (λ p v g u. (g.0, u)) & any_row IsTextItem s _ _ (λ p v g. g) & tt

items_kept : (s : Setting) → Rows KeptItems (items_rows s)
items_kept s =
    container_keeps KeptItems IsTextItem s (item_rows s) no_item _ (item_kept s) (empty_text, empty_text)
    (λ items i g f. one_more (λ (j : Item). j.key) is_text_item i items (and_both (is_utf8 i.key) (is_utf8 i.value) f.0 f.1) g)
    & tt

-- custom data
pub custom_data_row : {P : Type 0} (Good : P → Type 0) (s : Setting) (keep : P → List Item → P)
    → ((p : P) (v : List Item) → Good p → KeptItems v → Good (keep p v)) → Keeps Good (custom_data s keep)
custom_data_row Good s keep joins = container_keeps Good KeptItems s (items_rows s) [] keep (items_kept s) (refl, refl) joins

-- times, of which nothing need be known
pub times_row : {P : Type 0} (Good : P → Type 0) (s : Setting) (keep : P → Times → P)
    → ((p : P) (v : Times) → Good p → Good (keep p v)) → Keeps Good (times s keep)
times_row Good s keep joins = any_container Good s (times_rows s) no_times keep joins

-- ---- fields, attachments and typing

abbrev IsTextField : BareField → Type 0
IsTextField f = (is_utf8 f.key ≡ true) × (is_utf8 f.value ≡ true)

field_kept : (s : Setting) → Rows IsTextField (field_rows s)
field_kept s =
    text_row IsTextField s _ (λ p v g u. (u, g.1))
    & hidden_value_keeps IsTextField (λ v. is_utf8 v ≡ true) s text_in (λ p v h. record p { value = v; hidden = h }) is_text (λ p v h g u. (g.0, u))
    & tt

abbrev HasTextName : ReadAttachment → Type 0
HasTextName f = is_utf8 f.name ≡ true

file_value_kept : (s : Setting) → Keeps HasTextName (attachment_value s)
file_value_kept s f (element offset name raw content) cursor g =
    any_and_next (λ x. HasTextName x.0) (read_element s (element offset name raw content) cursor) _ (λ x.
    any_and_next (λ y. HasTextName y.0) (checked_value offset (source_in offset (attribute_text raw (codes "Ref")) x.0)) _ (λ source.
    either_step (λ y. HasTextName y.0) (is_compressed raw) (Err (Compressed offset)) (Ok (record f { source = source; hidden = is_hidden raw }, x.1)) tt g))

file_kept : (s : Setting) → Rows HasTextName (attachment_rows s)
file_kept s = text_row HasTextName s _ (λ p v g u. u) & file_value_kept s & tt

abbrev IsTextPair : Association → Type 0
IsTextPair p = (is_utf8 p.window ≡ true) × (is_utf8 p.keys ≡ true)

pair_kept : (s : Setting) → Rows IsTextPair (association_rows s)
pair_kept s = text_row IsTextPair s _ (λ p v g u. (u, g.1)) & text_row IsTextPair s _ (λ p v g u. (g.0, u)) & tt

abbrev is_text_pair : Association → Bool
is_text_pair p = is_utf8 p.window && is_utf8 p.keys

abbrev IsTextTyping : AutoType → Type 0
IsTextTyping a = (is_utf8 a.sequence ≡ true) × (list_all is_text_pair a.pairs ≡ true)

typing_kept : (s : Setting) → Rows IsTextTyping (auto_type_rows s)
typing_kept s =
    any_row IsTextTyping s _ _ (λ p v g. g)
    & any_row IsTextTyping s _ _ (λ p v g. g)
    & text_row IsTextTyping s _ (λ p v g u. (u, g.1))
    & container_keeps IsTextTyping IsTextPair s (association_rows s) no_association _ (pair_kept s) (empty_text, empty_text)
    (λ a p g f. (g.0, all_later is_text_pair a.pairs p g.1 (and_both (is_utf8 p.window) (is_utf8 p.keys) f.0 f.1)))
    & tt

-- ---- versions

-- what a version says is in order, fact by fact
pub record KeptContent (fields : List BareField) (attachments : List BareAttachment) (items : List Item) (tags fore back url : List ℕ) (typing : AutoType) : Type 0 where
  pub fields_rise : Rising (λ (f : BareField). f.key) is_text_field fields
  pub attachments_rise : Rising (λ (a : BareAttachment). a.name) (λ (a : BareAttachment). is_utf8 a.name) attachments
  pub items_rise : KeptItems items
  pub tags_text : is_utf8 tags ≡ true
  pub fore_text : is_utf8 fore ≡ true
  pub back_text : is_utf8 back ≡ true
  pub url_text : is_utf8 url ≡ true
  pub typing_text : IsTextTyping typing

abbrev pub InOrder : BareContent → Type 0
InOrder c = KeptContent c.fields c.attachments c.items c.tags c.fore c.back c.url_override c.auto_type

typing_is : (a : AutoType) → IsTextTyping a → is_text_typing a ≡ true
typing_is a k = and_both (is_utf8 a.sequence) (list_all is_text_pair a.pairs) k.0 k.1

proper : (c : BareContent) → InOrder c → is_proper_content c ≡ true
unfolding is_proper_content
proper c k =
    rw (k.fields_rise.0, k.fields_rise.1, k.attachments_rise.0, k.attachments_rise.1, k.items_rise.0, k.items_rise.1)
    (rw (k.tags_text, k.fore_text, k.back_text, k.url_text, typing_is c.auto_type k.typing_text) refl)

-- attachments rise by name, and these are texts
abbrev KeptFiles : List ReadAttachment → Type 0
KeptFiles attachments = Rising (λ (f : ReadAttachment). f.name) (λ (f : ReadAttachment). is_utf8 f.name) attachments

-- what is known of an entry is in order
abbrev KeptParts : EntryParts → Type 0
KeptParts p = InOrder p.content × KeptFiles p.attachments × (list_all is_kept_version p.history ≡ true)

no_entry_kept : KeptParts no_entry
unfolding is_utf8 chars encode
no_entry_kept = (
  record {
    fields_rise = (refl, refl);
    attachments_rise = (refl, refl);
    items_rise = (refl, refl);
    tags_text = refl;
    fore_text = refl;
    back_text = refl;
    url_text = refl;
    typing_text = (refl, refl);
  },
  (refl, refl),
  refl,
)

-- one more field
one_field : (p : EntryParts) (f : BareField) → KeptParts p → IsTextField f
    → Rising (λ (h : BareField). h.key) is_text_field (put (λ (h : BareField). h.key) f p.content.fields)
one_field p f g u = one_more (λ (h : BareField). h.key) is_text_field f p.content.fields (and_both (is_utf8 f.key) (is_utf8 f.value) u.0 u.1) g.0.fields_rise

version_kept : (s : Setting) → Rows KeptParts (version_rows s)
version_kept s =
    any_row KeptParts s _ _ (λ p v g. g)
    & any_row KeptParts s id_or_none _ (λ p v g. g)
    & any_row KeptParts s _ _ (λ p v g. g)
    & text_row KeptParts s _ (λ p v g u. (assumption (u, g.0), g.1, g.2))
    & text_row KeptParts s _ (λ p v g u. (assumption (u, g.0), g.1, g.2))
    & text_row KeptParts s _ (λ p v g u. (assumption (u, g.0), g.1, g.2))
    & text_row KeptParts s _ (λ p v g u. (assumption (u, g.0), g.1, g.2))
    & times_row KeptParts s _ (λ p v g. g)
    & container_keeps KeptParts IsTextField s (field_rows s) no_field _ (field_kept s) (empty_text, empty_text)
    (λ p f g u. (assumption (one_field p f g u, g.0), g.1, g.2))
    & container_keeps KeptParts HasTextName s (attachment_rows s) no_attachment _ (file_kept s) empty_text
    (λ p f g u. (g.0, one_more (λ (h : ReadAttachment). h.name) (λ (h : ReadAttachment). is_utf8 h.name) f p.attachments u g.1, g.2))
    & container_keeps KeptParts IsTextTyping s (auto_type_rows s) no_auto_type _ (typing_kept s) (empty_text, refl)
    (λ p v g u. (assumption (u, g.0), g.1, g.2))
    & custom_data_row KeptParts s _ (λ p v g u. (assumption (u, g.0), g.1, g.2))
    & tt

-- ---- history and entries

made_kept : (p : EntryParts) → KeptParts p → is_kept_version (version_of p) ≡ true
made_kept p g = rw (proper (version_of p).content g.0, g.1.0, g.1.1) refl

abbrev KeptHistory : List ReadVersion → Type 0
KeptHistory history = list_all is_kept_version history ≡ true

item_at_kept : (s : Setting) (offset : ℕ) (raw : List ℕ) (content : Content) (cursor : Cursor) → IfOk (history_item_at s offset raw content cursor) (λ x. is_kept_version x.0 ≡ true)
item_at_kept s offset raw content cursor =
    step_and_next (λ x. KeptParts x.0) (λ x. is_kept_version x.0 ≡ true) (children_and_end s (by_name s (history_item_rows s)) offset raw [] content no_entry cursor) _
    (element_keeps KeptParts s (history_item_rows s) (any_row KeptParts s id_or_none _ (λ p v k. k) & any_row KeptParts s _ _ (λ p v k. k) & version_kept s) offset raw [] content no_entry cursor no_entry_kept)
    (λ x k. any_and_next (λ y. is_kept_version y.0 ≡ true) (count_node x.1) (λ later. Ok (version_of x.0, later)) (λ later. made_kept x.0 k))

item_of_history : (s : Setting) → Keeps KeptHistory (history_item s)
item_of_history s past (element offset name raw content) cursor g =
    step_and_next (λ x. is_kept_version x.0 ≡ true) (λ x. KeptHistory x.0) (history_item_at s offset raw content cursor) (λ x. Ok (past ++ x.0 ∷ [], x.1))
    (item_at_kept s offset raw content cursor) (λ x k. all_later is_kept_version past x.0 g k)

-- a node's own id
pub id_row : {P : Type 0} (Good : P → Type 0) (s : Setting) (keep : P → NodeId → P) → ((p : P) (v : NodeId) → Good p → Good (keep p v)) → Keeps Good (own_id s keep)
id_row Good s keep joins = any_row Good s _ keep joins

not_nil : (b : Bool) (offset : ℕ) (u : NodeId) → bytes_eq u nil_id ≡ b → IfOk (cond b (Err (NilId offset)) (Ok u)) (λ v. not (bytes_eq v nil_id) ≡ true)
not_nil true offset u e = tt
not_nil false offset u e = ap not e

-- a node's id is not nil
pub node_kept : (offset : ℕ) (o : Option NodeId) → IfOk (node_id offset o) (λ v. not (bytes_eq v nil_id) ≡ true)
node_kept offset None = tt
node_kept offset (Some u) = not_nil (bytes_eq u nil_id) offset u refl

entry_kept : (s : Setting) → Rows KeptParts (entry_rows s)
entry_kept s =
    id_row KeptParts s _ (λ p v g. g)
    & container_keeps KeptParts KeptHistory s (history_rows s) [] _ (item_of_history s & tt) refl (λ p v g h. (g.0, g.1, h))
    & any_row KeptParts s _ _ (λ p v g. g)
    & version_kept s

whole_entry : (u : NodeId) (p : EntryParts) → not (bytes_eq u nil_id) ≡ true → KeptParts p
    → is_kept_entry (entry_of u p) ≡ true
whole_entry u p n g = rw (n, made_kept p g, g.2) refl

entry_at_kept : (s : Setting) (offset : ℕ) (raw : List ℕ) (content : Content) (cursor : Cursor) → IfOk (entry_at s offset raw content cursor) (λ x. is_kept_entry x.0 ≡ true)
entry_at_kept s offset raw content cursor =
    step_and_next (λ x. KeptParts x.0) (λ x. is_kept_entry x.0 ≡ true) (children_and_end s (by_name s (entry_rows s)) offset raw [] content no_entry cursor) _
    (element_keeps KeptParts s (entry_rows s) (entry_kept s) offset raw [] content no_entry cursor no_entry_kept)
    (λ x g. any_and_next (λ y. is_kept_entry y.0 ≡ true) (count_node x.1) _ (λ later.
    step_and_next (λ u. not (bytes_eq u nil_id) ≡ true) (λ y. is_kept_entry y.0 ≡ true) (node_id offset x.0.id)
    (λ u. Ok (entry_of u x.0, later))
    (node_kept offset x.0.id) (λ u n. whole_entry u x.0 n g)))

-- an entry, with what is known of its parent
pub entry_row : {P : Type 0} (Good : P → Type 0) (s : Setting) (keep : P → ReadEntry → P)
    → ((p : P) (v : ReadEntry) → Good p → is_kept_entry v ≡ true → Good (keep p v)) → Keeps Good (entry s keep)
entry_row Good s keep joins p (element offset name raw content) cursor g =
    step_and_next (λ x. is_kept_entry x.0 ≡ true) (λ x. Good x.0) (entry_at s offset raw content cursor) (λ x. Ok (keep p x.0, x.1))
    (entry_at_kept s offset raw content cursor) (λ x k. joins p x.0 g k)
