-- The rows of a document: each refusal of an element has its cause.
use Rattle.std.specs.Prelude.{ℤ}
use Rattle.std.proofs.Common.{◌≡◌, ◌⊎◌, inl, inr, ℕ, ◌+◌, ◌==◌, Bool, true, false, ◌||◌, cond, Option, Some, None, is_some, List, [], ◌∷◌, ◌++◌, codes, length, option_map, option_and_then, Result, Ok, Err, bytes_eq, refl, sym, ap, subst, ◌∙◌}
use Rattle.markup_grammar.specs.Attributes.{attribute_text}
use Rattle.markup_grammar.specs.Elements.{Element, Content, element, last, also, cut, first_cut, first_cut_in, own_text}
use Rattle.text_forms.specs.Texts.{bytes_of_length, trim}
use Rattle.outside_core.specs.Results.{◌>>=◌}
use Rattle.vault_model.specs.Bare.{BareField}
use Rattle.vault_model.specs.Empty.{new_protection}
use Rattle.vault_model.specs.declared.contents.Item.{Item}
use Rattle.vault_model.specs.declared.contents.Tri.{Tri}
use Rattle.vault_model.specs.declared.forms.DocForm.{DocForm}
use Rattle.vault_model.specs.declared.forms.DocForm.TheVariants.{Plain, V3, V4}
use Rattle.doc_forms.specs.declared.cursor.Cursor.{Cursor}
use Rattle.doc_forms.specs.declared.fails.DocFail.{DocFail}
use Rattle.doc_forms.specs.declared.fails.DocFail.TheVariants.{BadValue, Compressed}
use Rattle.doc_forms.specs.declared.times.Times.{Times}
use Rattle.doc_forms.specs.Children.{Child, all_children, by_name, children_and_end, container, hidden_value, name_of, offset_of, value, value_by}
use Rattle.doc_forms.specs.Documents.{no_tomb, tomb_rows, tombs_rows}
use Rattle.doc_forms.specs.ElementTexts.{ElementText, Setting, is_hidden, is_marked, read_element, read_rest, text_at_end, text_bytes}
use Rattle.doc_forms.specs.Entries.{association_rows, attachment_rows, attachment_value, auto_type_rows, field_rows, id_or_none, is_compressed, no_association, no_attachment, no_auto_type, no_field, own_bytes, own_id, part_rows, pool_number, source_in, version_rows, with_association, with_attachment, with_field}
use Rattle.doc_forms.specs.Metas.{MetaParts, binaries_rows, binary, icon_rows, icons_rows, meta_rows, metas, no_icon, no_meta, protection_rows}
use Rattle.doc_forms.specs.Refusals.{checked_value}
use Rattle.doc_forms.specs.Tables.{custom_data, item_rows, items_rows, no_item, no_times, times, times_rows}
use Rattle.doc_forms.specs.Values.{boolean, bytes_in, choice, id, number32, number64, signed32, signed64, text_in, time, value_or}
use Rattle.document_cause_laws.specs.ElementFaults.{HasFault, HasFaultIn, HasNoSource, Says, is_node, past_element, past_children, past_node, past_text}
use Rattle.document_cause_laws.specs.ElementKinds.{Kind, Names, ValueForm, association_kind, attachment_kind, attachment_value_kind, auto_type_kind, binaries_kind, binaries_names, binary_kind, child_kind, field_kind, icon_kind, icons_kind, in_boolean, in_bytes, in_choice, in_hash, in_id, in_number32, in_number64, in_own_id, in_signed32, in_signed64, in_text, in_time, is_empty_or, is_of_form, item_kind, items_kind, kind_named, may_stand_once, meta_kind, meta_names, names_in, part_names, protection_kind, times_kind, tomb_kind, tombs_kind, value_kind, version_names}
use Rattle.document_cause_laws.proofs.Answering.{Answering, Ending, and_ending, and_siblings, cut_answers, end_cause, end_of_two, ends_then, with_cause, with_more}
use Rattle.document_cause_laws.proofs.Passing.{HidesAt, SaysAtEnd, end_says_at, said_told, text_fault, unknown_told}

infixr 3 ◌&◌
-- one row does so, and those after it do
abbrev pub ◌&◌ : {A B : Type 0} → A → B → A × B
a & b = (a, b)

-- ---- children by their names

abbrev pub Told : {P : Type 0} → Setting → Kind → Cursor → Element → Result (P × Cursor) DocFail → Type 0
Told s kind cursor e r = Answering (first_cut_in e) (HasFault s kind cursor e) (λ x. x.1 ≡ past_element s.form kind cursor e) r

-- a child reads an element of this kind
abbrev pub IsTold : {P : Type 0} → Setting → Kind → Child P → Type 0
IsTold {P} s kind child = (p : P) (e : Element) (cursor : Cursor) → Told s kind cursor e (child p e cursor)

-- rows are those of these names
abbrev pub AreTold : {P : Type 0} → Setting → List (List ℕ × Child P) → Names → Type 0
AreTold s [] [] = Unit {0}
AreTold s [] (name ∷ names) = ⊥
AreTold s (row ∷ rows) [] = ⊥
AreTold s (row ∷ rows) (name ∷ names) = (row.0 ≡ name.0) × (IsTold s name.1 row.1 × AreTold s rows names)

told_of_two : {P : Type 0} (s : Setting) (b : Bool) (k l : Kind) (cursor : Cursor) (e : Element) (r t : Result (P × Cursor) DocFail)
    → Told s k cursor e r → Told s l cursor e t → Told s (cond b k l) cursor e (cond b r t)
told_of_two s true k l cursor e r t h j = h
told_of_two s false k l cursor e r t h j = j

pub names_told : {P : Type 0} (s : Setting) (rows : List (List ℕ × Child P)) (names : Names) → AreTold s rows names
    → (p : P) (e : Element) (cursor : Cursor) → Told s (kind_named names (name_of e)) cursor e (by_name s rows p e cursor)
names_told s [] [] h p e cursor =
    and_ending (first_cut_in e) (HasFault s (kind_named [] (name_of e)) cursor e) (λ x. x.1 ≡ past_element s.form (kind_named [] (name_of e)) cursor e)
    (λ x. x.1 ≡ past_element s.form (kind_named [] (name_of e)) cursor e) (read_element s e cursor) (λ x. Ok (p, x.1)) (unknown_told s e cursor) (λ x is. is)
names_told s [] (name ∷ names) h p e cursor = absurd h
names_told s (row ∷ rows) [] h p e cursor = absurd h
names_told s (row ∷ rows) (name ∷ names) h p e cursor =
    subst (λ (n : List ℕ). Told s (cond (bytes_eq (name_of e) name.0) name.1 (kind_named names (name_of e))) cursor e (cond (bytes_eq (name_of e) n) (row.1 p e cursor) (by_name s rows p e cursor)))
    (sym h.0)
    (told_of_two s (bytes_eq (name_of e) name.0) name.1 (kind_named names (name_of e)) cursor e (row.1 p e cursor) (by_name s rows p e cursor) (h.1.0 p e cursor) (names_told s rows names h.1.1 p e cursor))

-- ---- all children

-- a child is refused, or it is the second of a name that may stand once
abbrev pub ChildFault : Setting → Kind → Bool → Cursor → Element → DocFail → Type 0
ChildFault s kind there cursor e fail = HasFault s (child_kind s.form kind (name_of e)) cursor e fail
    ⊎ ((fail ≡ BadValue (offset_of e)) × (there ≡ true) × (may_stand_once kind (name_of e) ≡ true))

pub child_cause : (s : Setting) (kind : Kind) (there : Bool) (cursor : Cursor) (text : List ℕ) (e : Element) (more : Content) (fail : DocFail)
    → ChildFault s kind there cursor e fail → HasFaultIn s kind there cursor (also text e more) fail
child_cause s kind there cursor text e more fail (inl h) = inl h
child_cause s kind there cursor text e more fail (inr h) = inr (inl h)

pub all_told : {P : Type 0} (s : Setting) (kind : Kind) (Fits : Bool → P → Type 0) (child : Child P)
    → ((there : Bool) (p : P) (e : Element) (cursor : Cursor) → Fits there p
    → Answering (first_cut_in e) (ChildFault s kind there cursor e)
    (λ x. (x.1 ≡ past_element s.form (child_kind s.form kind (name_of e)) cursor e) × Fits (there || may_stand_once kind (name_of e)) x.0) (child p e cursor))
    → (there : Bool) (content : Content) (p : P) (cursor : Cursor) → Fits there p
    → Answering (first_cut content) (HasFaultIn s kind there cursor content)
    (λ x. (x.1 ≡ past_children s.form kind cursor content) × Unit {0}) (all_children child content p cursor)
all_told s kind Fits child told there (last text) p cursor fits = (refl, (refl, tt))
all_told s kind Fits child told there (also text e more) p cursor fits =
    let now = there || may_stand_once kind (name_of e) in
    let later = past_element s.form (child_kind s.form kind (name_of e)) cursor e in
    and_siblings (first_cut_in e) (first_cut more) (ChildFault s kind there cursor e) (HasFaultIn s kind now later more)
    (HasFaultIn s kind there cursor (also text e more)) (λ x. (x.1 ≡ later) × Fits now x.0)
    (λ x. (x.1 ≡ past_children s.form kind later more) × Unit {0})
    (child_cause s kind there cursor text e more) (λ fail h. inr (inr h))
    (child p e cursor) (λ x. all_children child more x.0 x.1)
    (told there p e cursor fits)
    (λ x is. subst (λ (c : Cursor). Answering (first_cut more) (HasFaultIn s kind now c more) (λ y. (y.1 ≡ past_children s.form kind c more) × Unit {0}) (all_children child more x.0 x.1))
    is.0 (all_told s kind Fits child told now more x.0 x.1 is.1))
all_told s kind Fits child told there (cut text answer) p cursor fits =
    cut_answers (HasFaultIn s kind there cursor (cut text answer)) (λ x. (x.1 ≡ cursor) × Unit {0}) answer

-- all children by rows of these names
pub rows_told : {P : Type 0} (s : Setting) (kind : Kind) (rows : List (List ℕ × Child P)) → AreTold s rows (names_in s.form kind)
    → (there : Bool) (content : Content) (p : P) (cursor : Cursor)
    → Answering (first_cut content) (HasFaultIn s kind there cursor content)
    (λ x. (x.1 ≡ past_children s.form kind cursor content) × Unit {0}) (all_children (by_name s rows) content p cursor)
rows_told {P} s kind rows h there content p cursor =
    all_told s kind (λ b q. Unit {0}) (by_name s rows) child there content p cursor tt
  where
    child : (there : Bool) (p : P) (e : Element) (cursor : Cursor) → Unit {0}
        → Answering (first_cut_in e) (ChildFault s kind there cursor e) (λ x. (x.1 ≡ past_element s.form (child_kind s.form kind (name_of e)) cursor e) × Unit {0}) (by_name s rows p e cursor)
    child there p e cursor fits =
        with_cause (first_cut_in e) (HasFault s (child_kind s.form kind (name_of e)) cursor e) (λ x. (x.1 ≡ past_element s.form (child_kind s.form kind (name_of e)) cursor e) × Unit {0})
        (ChildFault s kind there cursor e) (λ fail c. inl c) (by_name s rows p e cursor)
        (with_more (first_cut_in e) (HasFault s (child_kind s.form kind (name_of e)) cursor e) (λ x. x.1 ≡ past_element s.form (child_kind s.form kind (name_of e)) cursor e)
        (λ x. (x.1 ≡ past_element s.form (child_kind s.form kind (name_of e)) cursor e) × Unit {0}) (λ x is. (is, tt)) (by_name s rows p e cursor) (names_told s rows (names_in s.form kind) h p e cursor))

-- all children, and then the end of the element round them
pub within_told : {P : Type 0} (s : Setting) (kind : Kind) (So : P → Type 0) (child : Child P) (offset : ℕ) (name raw : List ℕ) (content : Content) (first : P) (cursor : Cursor)
    → Answering (first_cut content) (HasFaultIn s kind false cursor content) (λ x. (x.1 ≡ past_children s.form kind cursor content) × So x.0) (all_children child content first cursor)
    → Answering (first_cut content) (HasFault s kind cursor (element offset name raw content))
    (λ x. (x.1 ≡ past_text raw (own_text content) (past_children s.form kind cursor content)) × So x.0) (children_and_end s child offset raw [] content first cursor)
within_told s kind So child offset name raw content first cursor h =
    let later = past_children s.form kind cursor content in
    let text = own_text content in
    let Fault = HasFault s kind cursor (element offset name raw content) in
    and_ending (first_cut content) Fault (λ x. (x.1 ≡ later) × So x.0) (λ x. (x.1 ≡ past_text raw text later) × So x.0)
    (all_children child content first cursor) (λ x. text_at_end s offset raw text x.1 >>= λ y. Ok (x.0, y.1))
    (with_cause (first_cut content) (HasFaultIn s kind false cursor content) (λ x. (x.1 ≡ later) × So x.0) Fault (λ fail c. inl c) (all_children child content first cursor) h)
    (λ x is. ends_then Fault (SaysAtEnd s later raw text) (λ y. (y.1 ≡ past_text raw text later) × So y.0) (text_at_end s offset raw text x.1) (λ y. Ok (x.0, y.1))
    (end_cause (HidesAt s offset raw text) Fault (SaysAtEnd s later raw text) (text_fault s kind cursor offset name raw content) (text_at_end s offset raw text x.1) (end_says_at s offset raw text x.1 later is.0))
    (λ y said. (said.1, is.1)))

-- what is no node does not count
pub not_node : (kind : Kind) → is_node kind ≡ false → (c : Cursor) → c ≡ past_node kind c
not_node kind plain c = ap (λ (b : Bool). cond b (record c { nodes = c.nodes + 1 }) c) (sym plain)

pub container_told : {P Q : Type 0} (s : Setting) (kind : Kind) → is_node kind ≡ false → (rows : List (List ℕ × Child Q)) (first : Q) (keep : P → Q → P)
    → AreTold s rows (names_in s.form kind) → IsTold s kind (container s rows first keep)
container_told s kind plain rows first keep h p (element offset name raw content) cursor =
    let later = past_text raw (own_text content) (past_children s.form kind cursor content) in
    and_ending (first_cut content) (HasFault s kind cursor (element offset name raw content)) (λ x. (x.1 ≡ later) × Unit {0}) (λ x. x.1 ≡ past_node kind later)
    (children_and_end s (by_name s rows) offset raw [] content first cursor) (λ x. Ok (keep p x.0, x.1))
    (within_told s kind (λ q. Unit {0}) (by_name s rows) offset name raw content first cursor (rows_told s kind rows h false content first cursor))
    (λ x is. is.0 ∙ not_node kind plain later)

-- ---- values

pub checked_then : {A Y : Type 0} (Cause : DocFail → Type 0) (So : Y → Type 0) (offset : ℕ) (o : Option A) (next : A → Result Y DocFail)
    → (o ≡ None → Cause (BadValue offset)) → ((v : A) → o ≡ Some v → Ending Cause So (next v)) → Ending Cause So (checked_value offset o >>= next)
checked_then Cause So offset None next f g = f refl
checked_then Cause So offset (Some v) next f g = g v refl

-- a value is what its text says by its rule
abbrev pub IsSaidBy : {A : Type 0} → (ElementText → Option A) → Setting → Cursor → List ℕ → List ℕ → A → Type 0
IsSaidBy rule s later raw text v = (said : ElementText) × Says s later raw text said × (rule said ≡ Some v)

pub by_told : {A : Type 0} (s : Setting) (form : ValueForm) (rule : ElementText → Option A) → ((x : ElementText) → rule x ≡ None → is_of_form form x ≡ false)
    → (offset : ℕ) (name raw : List ℕ) (content : Content) (cursor : Cursor)
    → Answering (first_cut content) (HasFault s (value_kind form) cursor (element offset name raw content))
    (λ x. (x.1 ≡ past_text raw (own_text content) (past_children s.form (value_kind form) cursor content))
    × IsSaidBy rule s (past_children s.form (value_kind form) cursor content) raw (own_text content) x.0) (value_by s rule offset raw content cursor)
by_told s form rule wrong offset name raw content cursor =
    let later = past_children s.form (value_kind form) cursor content in
    let text = own_text content in
    let Fault = HasFault s (value_kind form) cursor (element offset name raw content) in
    and_ending (first_cut content) Fault (SaysAtEnd s later raw text) (λ x. (x.1 ≡ past_text raw text later) × IsSaidBy rule s later raw text x.0)
    (read_rest s offset raw [] content cursor) (λ x. checked_value offset (rule x.0) >>= λ v. Ok (v, x.1))
    (said_told s (value_kind form) (λ n. refl) offset name raw content cursor)
    (λ x said. checked_then Fault (λ y. (y.1 ≡ past_text raw text later) × IsSaidBy rule s later raw text y.0) offset (rule x.0) (λ v. Ok (v, x.1))
    (λ none. inr (inr (refl, record { said = x.0; says = said.0; other = wrong x.0 none })))
    (λ v is. (said.1, (x.0, said.0, is))))

pub value_told : {P A : Type 0} (s : Setting) (form : ValueForm) (rule : ElementText → Option A) (keep : P → A → P) → ((x : ElementText) → rule x ≡ None → is_of_form form x ≡ false)
    → IsTold s (value_kind form) (value s rule keep)
value_told s form rule keep wrong p (element offset name raw content) cursor =
    let later = past_children s.form (value_kind form) cursor content in
    let text = own_text content in
    and_ending (first_cut content) (HasFault s (value_kind form) cursor (element offset name raw content))
    (λ x. (x.1 ≡ past_text raw text later) × IsSaidBy rule s later raw text x.0) (λ x. x.1 ≡ past_text raw text later)
    (value_by s rule offset raw content cursor) (λ x. Ok (keep p x.0, x.1)) (by_told s form rule wrong offset name raw content cursor) (λ x is. is.0)

pub hidden_told : {P A : Type 0} (s : Setting) (form : ValueForm) (rule : ElementText → Option A) (keep : P → A → Bool → P) → ((x : ElementText) → rule x ≡ None → is_of_form form x ≡ false)
    → IsTold s (value_kind form) (hidden_value s rule keep)
hidden_told s form rule keep wrong p (element offset name raw content) cursor =
    let later = past_children s.form (value_kind form) cursor content in
    let text = own_text content in
    and_ending (first_cut content) (HasFault s (value_kind form) cursor (element offset name raw content))
    (λ x. (x.1 ≡ past_text raw text later) × IsSaidBy rule s later raw text x.0) (λ x. x.1 ≡ past_text raw text later)
    (value_by s rule offset raw content cursor) (λ x. Ok (keep p x.0 (is_hidden raw), x.1)) (by_told s form rule wrong offset name raw content cursor) (λ x is. is.0)

-- ---- forms

or_wrong : {A : Type 0} (default : A) (rule : List ℕ → Option A) (x : ElementText) → value_or default rule x ≡ None → is_empty_or (λ t. is_some (rule t)) x ≡ false
or_wrong {A} default rule x h = by (length (trim (text_bytes x)) == 0) h
  where
    by : (b : Bool) → cond b (Some default) (rule (trim (text_bytes x))) ≡ None → (b || is_some (rule (trim (text_bytes x)))) ≡ false
    by true e = cc e
    by false e = ap is_some e

no_map : {A B : Type 0} (f : A → B) (o : Option A) → option_map f o ≡ None → o ≡ None
no_map f None h = refl
no_map f (Some x) h = cc h

map_wrong : {A : Type 0} (rule : List ℕ → Option A) (x : ElementText) → value_or None (λ t. option_map Some (rule t)) x ≡ None → is_empty_or (λ t. is_some (rule t)) x ≡ false
map_wrong rule x h = by (length (trim (text_bytes x)) == 0) h
  where
    by : (b : Bool) → cond b (Some None) (option_map Some (rule (trim (text_bytes x)))) ≡ None → (b || is_some (rule (trim (text_bytes x)))) ≡ false
    by true e = cc e
    by false e = ap is_some (no_map Some (rule (trim (text_bytes x))) e)

module _ {P : Type 0} (s : Setting) where
  pub text_row : (keep : P → List ℕ → P) → IsTold s (value_kind in_text) (value s text_in keep)
  text_row keep = value_told s in_text text_in keep (λ x none. ap is_some none)

  pub bytes_row : (keep : P → List ℕ → P) → IsTold s (value_kind in_bytes) (value s bytes_in keep)
  bytes_row keep = value_told s in_bytes bytes_in keep (λ x none. ap is_some none)

  pub own_id_row : (keep : P → List ℕ → P) → IsTold s (value_kind in_own_id) (own_id s keep)
  own_id_row keep = value_told s in_own_id (λ x. id (trim (text_bytes x))) keep (λ x none. ap is_some none)

  pub id_row : (default : List ℕ) (keep : P → List ℕ → P) → IsTold s (value_kind in_id) (value s (value_or default id) keep)
  id_row default keep = value_told s in_id (value_or default id) keep (or_wrong default id)

  pub some_id_row : (keep : P → Option (List ℕ) → P) → IsTold s (value_kind in_id) (value s id_or_none keep)
  some_id_row keep = value_told s in_id id_or_none keep (map_wrong id)

  pub hash_row : (keep : P → Option (List ℕ) → P) → IsTold s (value_kind in_hash) (value s (value_or None (λ text. option_map Some (bytes_of_length 32 text))) keep)
  hash_row keep = value_told s in_hash (value_or None (λ text. option_map Some (bytes_of_length 32 text))) keep (map_wrong (bytes_of_length 32))

  pub boolean_row : (default : Bool) (keep : P → Bool → P) → IsTold s (value_kind in_boolean) (value s (value_or default boolean) keep)
  boolean_row default keep = value_told s in_boolean (value_or default boolean) keep (or_wrong default boolean)

  pub choice_row : (default : Tri) (keep : P → Tri → P) → IsTold s (value_kind in_choice) (value s (value_or default choice) keep)
  choice_row default keep = value_told s in_choice (value_or default choice) keep (or_wrong default choice)

  pub number32_row : (default : ℕ) (keep : P → ℕ → P) → IsTold s (value_kind in_number32) (value s (value_or default number32) keep)
  number32_row default keep = value_told s in_number32 (value_or default number32) keep (or_wrong default number32)

  pub number64_row : (default : ℕ) (keep : P → ℕ → P) → IsTold s (value_kind in_number64) (value s (value_or default number64) keep)
  number64_row default keep = value_told s in_number64 (value_or default number64) keep (or_wrong default number64)

  pub signed32_row : (default : ℤ) (keep : P → ℤ → P) → IsTold s (value_kind in_signed32) (value s (value_or default signed32) keep)
  signed32_row default keep = value_told s in_signed32 (value_or default signed32) keep (or_wrong default signed32)

  pub signed64_row : (default : ℤ) (keep : P → ℤ → P) → IsTold s (value_kind in_signed64) (value s (value_or default signed64) keep)
  signed64_row default keep = value_told s in_signed64 (value_or default signed64) keep (or_wrong default signed64)

  pub time_row : (default : ℕ) (keep : P → ℕ → P) → IsTold s (value_kind in_time) (value s (value_or default time) keep)
  time_row default keep = value_told s in_time (value_or default time) keep (or_wrong default time)

-- ---- times and custom items

times_rows_told : (s : Setting) → AreTold s (times_rows s) (names_in s.form times_kind)
times_rows_told s =
    refl & time_row s _ _ & refl & time_row s _ _ & refl & time_row s _ _ & refl & time_row s _ _ & refl & boolean_row s _ _
    & refl & number64_row s _ _ & refl & time_row s _ _ & tt

pub times_told : {P : Type 0} (s : Setting) (keep : P → Times → P) → IsTold s times_kind (times s keep)
times_told s keep = container_told s times_kind refl (times_rows s) no_times keep (times_rows_told s)

item_rows_told : (s : Setting) → AreTold s (item_rows s) (names_in s.form item_kind)
item_rows_told s = refl & text_row s _ & refl & text_row s _ & refl & time_row s _ _ & tt

items_rows_told : (s : Setting) → AreTold s (items_rows s) (names_in s.form items_kind)
items_rows_told s = refl & container_told s item_kind refl (item_rows s) no_item _ (item_rows_told s) & tt

pub items_told : {P : Type 0} (s : Setting) (keep : P → List Item → P) → IsTold s items_kind (custom_data s keep)
items_told s keep = container_told s items_kind refl (items_rows s) [] keep (items_rows_told s)

-- ---- what is in entries

field_rows_told : (s : Setting) → AreTold s (field_rows s) (names_in s.form field_kind)
field_rows_told s =
    refl & text_row s _ & refl & hidden_told s in_text text_in (λ (p : BareField) v h. record p { value = v; hidden = h }) (λ x none. ap is_some none) & tt

no_source : (s : Setting) (later : Cursor) (raw text : List ℕ) (offset : ℕ) (x : ElementText) → Says s later raw text x
    → (ref : Option (List ℕ)) → source_in offset ref x ≡ None → HasNoSource ref s later raw text
no_source s later raw text offset x says None h = record { said = x; says = says; none = no_map own_bytes (bytes_in x) h }
no_source s later raw text offset x says (Some ref) h = no_map (pool_number offset) (number64 ref) h

attachment_value_told : (s : Setting) → IsTold s attachment_value_kind (attachment_value s)
attachment_value_told s p (element offset name raw content) cursor =
    let later = past_children s.form attachment_value_kind cursor content in
    let text = own_text content in
    let Fault = HasFault s attachment_value_kind cursor (element offset name raw content) in
    and_ending (first_cut content) Fault (SaysAtEnd s later raw text) (λ x. x.1 ≡ past_text raw text later)
    (read_element s (element offset name raw content) cursor) _
    (said_told s attachment_value_kind (λ n. refl) offset name raw content cursor)
    (λ x said. checked_then Fault (λ y. y.1 ≡ past_text raw text later) offset (source_in offset (attribute_text raw (codes "Ref")) x.0) _
    (λ none. inr (inr (inl (refl, no_source s later raw text offset x.0 said.0 (attribute_text raw (codes "Ref")) none))))
    (λ source is. end_of_two Fault (λ y. y.1 ≡ past_text raw text later) (is_compressed raw) (Err (Compressed offset)) (Ok (record p { source = source; hidden = is_hidden raw }, x.1))
    (λ compressed. inr (inr (inr (refl, compressed)))) (λ not. said.1)))

attachment_rows_told : (s : Setting) → AreTold s (attachment_rows s) (names_in s.form attachment_kind)
attachment_rows_told s = refl & text_row s _ & refl & attachment_value_told s & tt

association_rows_told : (s : Setting) → AreTold s (association_rows s) (names_in s.form association_kind)
association_rows_told s = refl & text_row s _ & refl & text_row s _ & tt

auto_type_rows_told : (s : Setting) → AreTold s (auto_type_rows s) (names_in s.form auto_type_kind)
auto_type_rows_told s =
    refl & boolean_row s _ _ & refl & number32_row s _ _ & refl & text_row s _
    & refl & container_told s association_kind refl (association_rows s) no_association with_association (association_rows_told s) & tt

part_rows_told : (s : Setting) → AreTold s (part_rows s) part_names
part_rows_told s =
    refl & times_told s _
    & refl & container_told s field_kind refl (field_rows s) no_field with_field (field_rows_told s)
    & refl & container_told s attachment_kind refl (attachment_rows s) no_attachment with_attachment (attachment_rows_told s)
    & refl & container_told s auto_type_kind refl (auto_type_rows s) no_auto_type _ (auto_type_rows_told s)
    & refl & items_told s _ & tt

pub version_rows_told : (s : Setting) → AreTold s (version_rows s) version_names
version_rows_told s =
    refl & number32_row s _ _ & refl & some_id_row s _ & refl & boolean_row s _ _ & refl & text_row s _ & refl & text_row s _
    & refl & text_row s _ & refl & text_row s _ & part_rows_told s

-- ---- what a database says of itself

protection_rows_told : (s : Setting) → AreTold s (protection_rows s) (names_in s.form protection_kind)
protection_rows_told s =
    refl & boolean_row s _ _ & refl & boolean_row s _ _ & refl & boolean_row s _ _ & refl & boolean_row s _ _ & refl & boolean_row s _ _ & tt

icon_rows_told : (s : Setting) → AreTold s (icon_rows s) (names_in s.form icon_kind)
icon_rows_told s = refl & id_row s _ _ & refl & bytes_row s _ & refl & text_row s _ & refl & time_row s _ _ & tt

icons_rows_told : (s : Setting) → AreTold s (icons_rows s) (names_in s.form icons_kind)
icons_rows_told s = refl & container_told s icon_kind refl (icon_rows s) no_icon _ (icon_rows_told s) & tt

binary_told : (s : Setting) → IsTold s binary_kind (binary s)
binary_told s p (element offset name raw content) cursor =
    let later = past_children s.form binary_kind cursor content in
    let text = own_text content in
    let Fault = HasFault s binary_kind cursor (element offset name raw content) in
    and_ending (first_cut content) Fault (SaysAtEnd s later raw text) (λ x. x.1 ≡ past_text raw text later)
    (read_element s (element offset name raw content) cursor) _
    (said_told s binary_kind (λ n. refl) offset name raw content cursor)
    (λ x said. checked_then Fault (λ y. y.1 ≡ past_text raw text later) offset (option_and_then number64 (attribute_text raw (codes "ID"))) _
    (λ none. inr (inr (inl (refl, inl none))))
    (λ number is. checked_then Fault (λ y. y.1 ≡ past_text raw text later) offset (bytes_in x.0) _
    (λ none. inr (inr (inl (refl, inr (record { said = x.0; says = said.0; none = none })))))
    (λ bytes are. end_of_two Fault (λ y. y.1 ≡ past_text raw text later) (is_marked (codes "Compressed") raw) (Err (Compressed offset))
    (Ok (p ++ record { number = number; bytes = bytes; hidden = is_hidden raw } ∷ [], x.1))
    (λ compressed. inr (inr (inr (refl, compressed)))) (λ not. said.1))))

binaries_rows_told : (form : DocForm) (s : Setting) → AreTold s (binaries_rows form s) (binaries_names form)
binaries_rows_told Plain s = refl & container_told s binaries_kind refl ((codes "Binary", binary s) ∷ []) [] _ (refl & binary_told s & tt) & tt
binaries_rows_told V3 s = refl & container_told s binaries_kind refl ((codes "Binary", binary s) ∷ []) [] _ (refl & binary_told s & tt) & tt
binaries_rows_told V4 s = tt

meta_rows_told : (s : Setting) → AreTold s (meta_rows s) (meta_names s.form)
meta_rows_told s =
    refl & text_row s _ & refl & hash_row s _ & refl & time_row s _ _ & refl & text_row s _ & refl & time_row s _ _ & refl & text_row s _ & refl & time_row s _ _
    & refl & text_row s _ & refl & time_row s _ _ & refl & number32_row s _ _ & refl & text_row s _ & refl & time_row s _ _
    & refl & signed64_row s _ _ & refl & signed64_row s _ _ & refl & boolean_row s _ _
    & refl & container_told s protection_kind refl (protection_rows s) new_protection _ (protection_rows_told s)
    & refl & container_told s icons_kind refl (icons_rows s) [] _ (icons_rows_told s)
    & refl & boolean_row s _ _ & refl & id_row s _ _ & refl & time_row s _ _ & refl & id_row s _ _ & refl & time_row s _ _
    & refl & id_row s _ _ & refl & id_row s _ _ & refl & signed32_row s _ _ & refl & signed64_row s _ _
    & refl & items_told s _ & binaries_rows_told s.form s

pub metas_told : {P : Type 0} (s : Setting) (keep : P → MetaParts → P) → IsTold s meta_kind (metas s keep)
metas_told s keep = container_told s meta_kind refl (meta_rows s) no_meta keep (meta_rows_told s)

-- ---- tombstones

tomb_rows_told : (s : Setting) → AreTold s (tomb_rows s) (names_in s.form tomb_kind)
tomb_rows_told s = refl & id_row s _ _ & refl & time_row s _ _ & tt

pub tombs_rows_told : (s : Setting) → AreTold s (tombs_rows s) (names_in s.form tombs_kind)
tombs_rows_told s = refl & container_told s tomb_kind refl (tomb_rows s) no_tomb _ (tomb_rows_told s) & tt
