-- Custom items, fields and how an entry is typed are read back.
use Rattle.std.proofs.Common.{◌≡◌, ℕ, ◌≤◌, Bool, true, false, cond, Some, None, List, [], ◌∷◌, ◌++◌, codes, ap, sym, refl, ◌∙◌, arith}
use Rattle.std.specs.Str.{is_utf8}
use Rattle.std.proofs.lemmas.Str.{IsUtf8-from_is_utf8}
use Rattle.base64.specs.GeneralPurpose.{IsBytes}
use Rattle.vault_model.specs.Bare.{BareField}
use Rattle.vault_model.specs.Proper.{rises}
use Rattle.vault_model.specs.declared.contents.Association.{Association}
use Rattle.vault_model.specs.declared.contents.AutoType.{AutoType}
use Rattle.vault_model.specs.declared.contents.Item.{Item}
use Rattle.vault_model.specs.declared.forms.DocForm.{DocForm}
use Rattle.vault_model.specs.declared.forms.DocForm.TheVariants.{Plain, V3, V4}
use Rattle.doc_forms.specs.ElementTexts.{Setting, may_hide}
use Rattle.doc_forms.specs.Children.{by_name, container}
use Rattle.doc_forms.specs.Tables.{put, no_item, item_rows, items_rows, custom_data}
use Rattle.doc_forms.specs.Entries.{no_field, field_rows, no_association, association_rows, with_association, no_auto_type, auto_type_rows}
use Rattle.doc_forms.specs.ElementTexts.{hidden_bytes}
use Rattle.doc_forms.specs.Values.{text_in}
use Rattle.doc_spelling.specs.Pieces.{unless_zero, in_memory_attribute}
use Rattle.doc_spelling.specs.Values.{value_piece, time_piece, item_piece, items_piece}
use Rattle.doc_spelling.specs.Entries.{field_piece, association_piece, auto_type_piece}
use Rattle.doc_spelling.proofs.Frame.{identity, Reads, reads_none, ◌▸◌, by_row, container_reads, text_value, text_hidden, secret_hidden, no_protection, no_hiding, in_memory_marks}
use Rattle.doc_spelling.proofs.ReadLists.{fold_over, each_leaf, fold_along, append_all, put_all}
use Rattle.doc_spelling.proofs.ReadOptions.{maybe_part, unless_zero_back, if_not_zero}
use Rattle.time_core.specs.Times.{last_stamp}
use Rattle.doc_spelling.proofs.Goods.{Each}
use Rattle.doc_spelling.proofs.TimeTexts.{stamp_says}
use Rattle.doc_spelling.proofs.ValueTexts.{Says, literal, bool_says, number_says}

chosen : {A : Type 0} (b : Bool) (x y : A) → b ≡ true → cond b x y ≡ x
chosen true x y e = refl
chosen false x y e = cc e

pub text_says : (text : List ℕ) → is_utf8 text ≡ true → Says text_in text text
text_says text e = (IsUtf8-from_is_utf8 text e, chosen (is_utf8 text) (Some text) None e)

pub hidden_says : (text : List ℕ) → is_utf8 text ≡ true → text_in (hidden_bytes text) ≡ Some text
hidden_says text e = chosen (is_utf8 text) (Some text) None e

-- ---- custom items

pub record GoodItem (i : Item) : Type 0 where
  pub key : is_utf8 i.key ≡ true
  pub value : is_utf8 i.value ≡ true
  pub changed : i.changed ≤ last_stamp

item_read : {s : Setting} (form : DocForm) (i : Item) → GoodItem i → Reads s identity (by_name s (items_rows s)) (item_piece form i) (put (λ (i : Item). i.key) i) 0
item_read {s} form i h =
    by_row (items_rows s) (container_reads (item_rows s) no_item (λ items item. put (λ (i : Item). i.key) item items) (codes "Item") (put (λ (i : Item). i.key) i)
    (λ p q e. ap (λ (q : Item). put (λ (i : Item). i.key) q p) (e ∙ ap (λ (n : ℕ). record i { changed = n }) (unless_zero_back i.changed)))
    (by_row (item_rows s) (text_value s identity _ _ _ _ i.key (λ p. record p { key = i.key }) (text_says i.key h.key) (λ p. refl))
    ▸ by_row (item_rows s) (text_value s identity _ _ _ _ i.value (λ p. record p { value = i.value }) (text_says i.value h.value) (λ p. refl))
    ▸ maybe_part (time_piece form (codes "LastModificationTime")) (λ (p : Item). p.changed) (λ p n. record p { changed = n }) (λ n. n ≤ last_stamp) (λ p. refl)
    (λ n low. by_row (item_rows s) (text_value s identity _ _ _ _ n (λ p. record p { changed = n }) (stamp_says form n low) (λ p. refl)))
    (unless_zero i.changed) (if_not_zero (λ n. n ≤ last_stamp) i.changed h.changed)))

pub items_read : {P V : Type 0} {s : Setting} {view : P → V} (form : DocForm) (items : List Item) → Each GoodItem items → rises (λ (i : Item). i.key) items ≡ true
    → (keep : P → List Item → P) (g : V → V) → ((p : P) → view (keep p items) ≡ g (view p))
    → Reads s view (custom_data s keep) (items_piece form items) g 0
items_read {s = s} {view} form items good up keep g kept =
    container_reads (items_rows s) [] keep (codes "CustomData") g (λ p q e. ap (λ q. view (keep p q)) (e ∙ put_all (λ (i : Item). i.key) [] items up) ∙ kept p)
    (each_leaf (item_piece form) (put (λ (i : Item). i.key)) GoodItem (item_read form) items good)

-- ---- fields

pub record GoodField (f : BareField) : Type 0 where
  pub key : is_utf8 f.key ≡ true
  pub value : is_utf8 f.value ≡ true
  pub bytes : IsBytes f.value

value_read : {s : Setting} (form : DocForm) (bytes : List ℕ) (h : Bool) → form ≡ s.form → is_utf8 bytes ≡ true → IsBytes bytes
    → Reads s identity (by_name s (field_rows s)) (value_piece form (codes "Value") bytes h) (λ (p : BareField). record p { value = bytes; hidden = h }) 0
value_read {s} form bytes false e utf8 is =
    by_row (field_rows s) (text_hidden s identity text_in (λ (p : BareField) v h. record p { value = v; hidden = h }) _ [] _ bytes false (λ p. record p { value = bytes; hidden = false }) tt no_protection no_hiding (text_says bytes utf8) (λ p. refl))
value_read {s} Plain bytes true e utf8 is =
    by_row (field_rows s) (text_hidden s identity text_in (λ (p : BareField) v h. record p { value = v; hidden = h }) _ (in_memory_attribute ∷ []) _ bytes true (λ p. record p { value = bytes; hidden = true }) (literal 84 (codes "rue") refl, tt) in_memory_marks.0 in_memory_marks.1 (text_says bytes utf8) (λ p. refl))
value_read {s} V3 bytes true e utf8 is =
    by_row (field_rows s) (secret_hidden s identity text_in (λ (p : BareField) v h. record p { value = v; hidden = h }) _ bytes bytes (λ p. record p { value = bytes; hidden = true }) (ap may_hide (sym e)) is (hidden_says bytes utf8) (λ p. refl))
value_read {s} V4 bytes true e utf8 is =
    by_row (field_rows s) (secret_hidden s identity text_in (λ (p : BareField) v h. record p { value = v; hidden = h }) _ bytes bytes (λ p. record p { value = bytes; hidden = true }) (ap may_hide (sym e)) is (hidden_says bytes utf8) (λ p. refl))

pub field_read : {P V : Type 0} {s : Setting} {view : P → V} (form : DocForm) → form ≡ s.form → (f : BareField) → GoodField f → (keep : P → BareField → P) (g : V → V) → ((p : P) → view (keep p f) ≡ g (view p))
    → Reads s view (container s (field_rows s) no_field keep) (field_piece form f) g 0
field_read {s = s} {view} form same f h keep g kept =
    container_reads (field_rows s) no_field keep (codes "String") g (λ p q e. ap (λ q. view (keep p q)) e ∙ kept p)
    (by_row (field_rows s) (text_value s identity _ _ _ _ f.key (λ p. record p { key = f.key }) (text_says f.key h.key) (λ p. refl))
    ▸ value_read form f.value f.hidden same h.value h.bytes
    ▸ reads_none)

-- ---- how an entry is typed

pub record GoodPair (a : Association) : Type 0 where
  pub window : is_utf8 a.window ≡ true
  pub keys : is_utf8 a.keys ≡ true

pair_read : {s : Setting} (a : Association) → GoodPair a → Reads s identity (by_name s (auto_type_rows s)) (association_piece a) (λ p. with_association p a) 0
pair_read {s} a h =
    by_row (auto_type_rows s) (container_reads (association_rows s) no_association with_association (codes "Association") (λ p. with_association p a) (λ p q e. ap (with_association p) e)
    (by_row (association_rows s) (text_value s identity _ _ _ _ a.window (λ p. record p { window = a.window }) (text_says a.window h.window) (λ p. refl))
    ▸ by_row (association_rows s) (text_value s identity _ _ _ _ a.keys (λ p. record p { keys = a.keys }) (text_says a.keys h.keys) (λ p. refl))
    ▸ reads_none))

pub record GoodTyping (a : AutoType) : Type 0 where
  pub obfuscation : a.obfuscation ≤ 4294967295
  pub sequence : is_utf8 a.sequence ≡ true
  pub pairs : Each GoodPair a.pairs

with_pairs : (p : AutoType) (pairs : List Association) → fold_over (λ a p. with_association p a) p pairs ≡ record p { pairs = p.pairs ++ pairs }
with_pairs p pairs =
    fold_along (λ (p : AutoType). p.pairs) (λ p l. record p { pairs = l }) (λ a l. l ++ a ∷ []) (λ p. refl) (λ p l. refl) (λ p l m. refl) p pairs
    ∙ ap (λ l. record p { pairs = l }) (append_all p.pairs pairs)

pub typing_read : {P V : Type 0} {s : Setting} {view : P → V} (a : AutoType) → GoodTyping a → (keep : P → AutoType → P) (g : V → V) → ((p : P) → view (keep p a) ≡ g (view p))
    → Reads s view (container s (auto_type_rows s) no_auto_type keep) (auto_type_piece a) g 0
typing_read {s = s} {view} a h keep g kept =
    container_reads (auto_type_rows s) no_auto_type keep (codes "AutoType") g (λ p q e. ap (λ q. view (keep p q)) (e ∙ with_pairs _ a.pairs) ∙ kept p)
    (by_row (auto_type_rows s) (text_value s identity _ _ _ _ a.enabled (λ p. record p { enabled = a.enabled }) (bool_says true a.enabled) (λ p. refl))
    ▸ by_row (auto_type_rows s) (text_value s identity _ _ _ _ a.obfuscation (λ p. record p { obfuscation = a.obfuscation }) (number_says 0 4294967295 a.obfuscation h.obfuscation (omega (arith, h.obfuscation))) (λ p. refl))
    ▸ by_row (auto_type_rows s) (text_value s identity _ _ _ _ a.sequence (λ p. record p { sequence = a.sequence }) (text_says a.sequence h.sequence) (λ p. refl))
    ▸ each_leaf association_piece (λ a p. with_association p a) GoodPair pair_read a.pairs h.pairs)
