-- Nodes of a document, and what is round them: each refusal of an element has its cause.
use Rattle.std.proofs.Common.{◌≡◌, ◌≢◌, ◌⊎◌, inl, inr, ℕ, suc, ◌+◌, ◌-◌, ◌==◌, ◌≤◌, nat_lt, not, Bool, true, false, ◌||◌, cond, Option, Some, None, is_some, List, [], ◌∷◌, ◌++◌, codes, Result, Ok, Err, IfOk, bytes_eq, refl, sym, ap, subst, ◌∙◌, arith}
use Rattle.std.specs.Option.{option_or}
use Rattle.std.proofs.lemmas.Bool.Decides.{leb_tells}
use Rattle.std.proofs.lemmas.Slice.Eq.{bytes_eq-Decides}
use Rattle.markup_grammar.specs.Answers.{Answer}
use Rattle.markup_grammar.specs.Elements.{Element, Content, element, last, also, cut, first_cut, first_cut_in, own_text}
use Rattle.text_forms.specs.Texts.{base64_bytes, trim}
use Rattle.outside_core.specs.Results.{◌>>=◌}
use Rattle.vault_model.specs.Db.{NodeId, nil_id}
use Rattle.vault_model.proofs.Tests.{apart}
use Rattle.doc_forms.specs.declared.cursor.Cursor.{Cursor}
use Rattle.doc_forms.specs.declared.fails.DocFail.{DocFail}
use Rattle.doc_forms.specs.declared.fails.DocFail.TheVariants.{BadValue, MissingElement, NilId, TooDeep, TooMany}
use Rattle.doc_forms.specs.declared.fails.RequiredElement.TheVariants.{Uuid}
use Rattle.doc_forms.specs.Children.{Child, all_children, by_name, children_and_end, container, count_node, name_of, offset_of, unknown_child, value, value_by}
use Rattle.doc_forms.specs.Documents.{FileParts, RootParts, document_rows, file_rows, no_file_parts, no_root, root, root_group, root_rows, tombs_rows}
use Rattle.doc_forms.specs.ElementTexts.{ElementText, Setting, is_protected, read_element, text_at_end, text_bytes}
use Rattle.doc_forms.specs.Entries.{EntryParts, ReadEntry, attachment_rows, auto_type_rows, entry, entry_at, entry_of, entry_rows, field_rows, history, history_item, history_item_at, history_item_rows, history_rows, no_attachment, no_auto_type, no_entry, no_field, node_id, own_id, with_content, version_rows, with_attachment, with_field}
use Rattle.doc_forms.specs.Groups.{GroupParts, append_tree, group, group_child, group_end, group_parts, group_rows, no_group, node, record_of, with_group_content}
use Rattle.doc_forms.specs.Metas.{meta_rows, metas, no_meta}
use Rattle.doc_forms.specs.Tables.{items_rows, no_times, times, times_rows}
use Rattle.doc_forms.specs.Values.{id}
use Rattle.document_cause_laws.specs.ElementFaults.{HasFault, HasFaultIn, HasNone, IsFull, LacksId, LastSaysId, SaysId, length_or_none, past_element, past_children, past_node, past_text}
use Rattle.document_cause_laws.specs.ElementKinds.{Kind, Names, child_kind, deep_group_kind, entry_kind, file_kind, group_kind, group_names, history_item_kind, history_kind, in_own_id, inner_group_kind, kind_named, may_stand_once, meta_kind, names_in, root_kind, text_kind, tombs_kind, unknown_kind, value_kind}
use Rattle.document_cause_laws.proofs.Answering.{Answering, Ending, and_ending, and_siblings, cut_answers, end_cause, end_of_two, ends_then, with_cause, with_more}
use Rattle.document_cause_laws.proofs.Passing.{HidesAt, SaysAtEnd, end_says_at, text_fault}
use Rattle.document_cause_laws.proofs.RowFaults.{◌&◌, AreTold, ChildFault, IsSaidBy, IsTold, Told, all_told, by_told, container_told, id_row, items_told, metas_told, names_told, own_id_row, rows_told, some_id_row, text_row, times_told, tombs_rows_told, version_rows_told, within_told, number32_row, boolean_row, choice_row}

-- ---- what rows keep

-- a part of what is known that a child leaves as it is
abbrev pub Keeps : {P T : Type 0} → (P → T) → Child P → Type 0
Keeps {P} part child = (p : P) (e : Element) (cursor : Cursor) → IfOk (child p e cursor) (λ x. part x.0 ≡ part p)

abbrev pub AllKeep : {P T : Type 0} → (P → T) → List (List ℕ × Child P) → Type 0
AllKeep part [] = Unit {0}
AllKeep part (row ∷ rows) = Keeps part row.1 × AllKeep part rows

module _ {P A T : Type 0} (part : P → T) (s : Setting) (keep : P → A → P) (same : (p : P) (v : A) → part (keep p v) ≡ part p) where
  kept : (p : P) (r : Result (A × Cursor) DocFail) → IfOk {T = P × Cursor} (r >>= λ x. Ok (keep p x.0, x.1)) (λ x. part x.0 ≡ part p)
  kept p (Ok x) = same p x.0
  kept p (Err fail) = tt

  pub value_keeps : (rule : ElementText → Option A) → Keeps part (value s rule keep)
  value_keeps rule p (element offset name raw content) cursor = kept p (value_by s rule offset raw content cursor)

  pub container_keeps : (rows : List (List ℕ × Child A)) (first : A) → Keeps part (container s rows first keep)
  container_keeps rows first p (element offset name raw content) cursor = kept p (children_and_end s (by_name s rows) offset raw [] content first cursor)

pub entry_keeps : {P T : Type 0} (part : P → T) (s : Setting) (keep : P → ReadEntry → P) → ((p : P) (v : ReadEntry) → part (keep p v) ≡ part p) → Keeps part (entry s keep)
entry_keeps part s keep same p (element offset name raw content) cursor = kept part s keep same p (entry_at s offset raw content cursor)

pub if_of_two : {X : Type 0} (So : X → Type 0) (b : Bool) (r t : Result X DocFail) → (b ≡ true → IfOk r So) → (b ≡ false → IfOk t So) → IfOk (cond b r t) So
if_of_two So true r t f g = f refl
if_of_two So false r t f g = g refl

pub names_keep : {P T : Type 0} (part : P → T) (s : Setting) (rows : List (List ℕ × Child P)) → AllKeep part rows → Keeps part (by_name s rows)
names_keep {P} part s [] h p e cursor = by (read_element s e cursor)
  where
    by : (r : Result (ElementText × Cursor) DocFail) → IfOk {T = P × Cursor} (r >>= λ x. Ok (p, x.1)) (λ x. part x.0 ≡ part p)
    by (Ok x) = refl
    by (Err fail) = tt
names_keep part s (row ∷ rows) h p e cursor =
    if_of_two (λ x. part x.0 ≡ part p) (bytes_eq (name_of e) row.0) (row.1 p e cursor) (by_name s rows p e cursor)
    (λ is. h.0 p e cursor) (λ is. names_keep part s rows h.1 p e cursor)

-- a fact of the values of a step that has causes
pub with_fact : {X : Type 0} (first : Option Answer) (Cause : DocFail → Type 0) (So More : X → Type 0) (r : Result X DocFail)
    → Answering first Cause So r → IfOk r More → Answering first Cause (λ x. So x × More x) r
with_fact first Cause So More (Ok x) h k = (h.0, (h.1, k))
with_fact first Cause So More (Err fail) h k = h

-- the values of a step that has causes
pub facts_of : {X : Type 0} (first : Option Answer) (Cause : DocFail → Type 0) (So : X → Type 0) (r : Result X DocFail) → Answering first Cause So r → IfOk r So
facts_of first Cause So (Ok x) h = h.1
facts_of first Cause So (Err fail) h = tt

pub then_if : {X Y : Type 0} (So : X → Type 0) (Then : Y → Type 0) (r : Result X DocFail) (next : X → Result Y DocFail) → IfOk r So → ((x : X) → So x → IfOk (next x) Then) → IfOk (r >>= next) Then
then_if So Then (Ok x) next h f = f x h
then_if So Then (Err fail) next h f = tt

-- ---- counts

pub full : (n : ℕ) → nat_lt n 262144 ≡ false → 262144 ≤ n
full n h = elim (leb_tells (suc n) 262144) [
  | inl a ↦ absurd (apart (nat_lt n 262144) a.0 h)
  | inr a ↦ omega arith
]

same_nodes : (raw text : List ℕ) (later : Cursor) → (past_text raw text later).nodes ≡ later.nodes
same_nodes raw text later = by (is_protected raw)
  where
    by : (b : Bool) → (cond b (record later { offset = later.offset + length_or_none (base64_bytes (trim text)) }) later).nodes ≡ later.nodes
    by true = refl
    by false = refl

abbrev CountFault : Cursor → DocFail → Type 0
CountFault later fail = (fail ≡ TooMany 262145) × IsFull later

count_told : (now : Cursor) → Ending (CountFault now) (λ c. c ≡ record now { nodes = now.nodes + 1 }) (count_node now)
count_told now =
    end_of_two (CountFault now) (λ c. c ≡ record now { nodes = now.nodes + 1 }) (nat_lt now.nodes 262144) (Ok (record now { nodes = now.nodes + 1 })) (Err (TooMany 262145))
    (λ lt. refl) (λ most. (refl, full now.nodes most))

-- the end of a node, whose cursor is that after its text
counted : (Fault : DocFail → Type 0) (raw text : List ℕ) (later now : Cursor) → now ≡ past_text raw text later
    → ((fail : DocFail) → CountFault later fail → Fault fail)
    → Ending Fault (λ c. c ≡ record (past_text raw text later) { nodes = (past_text raw text later).nodes + 1 }) (count_node now)
counted Fault raw text later now is fault =
    subst (λ (c : Cursor). Ending Fault (λ d. d ≡ record c { nodes = c.nodes + 1 }) (count_node now)) is
    (end_cause (CountFault now) Fault (λ d. d ≡ record now { nodes = now.nodes + 1 })
    (λ fail h. fault fail (h.0, subst (λ (n : ℕ). 262144 ≤ n) (ap (λ (c : Cursor). c.nodes) is ∙ same_nodes raw text later) h.1)) (count_node now) (count_told now))

-- ---- ids

abbrev uuid : List ℕ
uuid = codes "UUID"

-- what a child makes of the id that is known
abbrev pub ChildId : Setting → Cursor → Element → Option NodeId → Option NodeId → Type 0
ChildId s cursor e old now = ((name_of e ≢ codes "UUID") × (now ≡ old))
    ⊎ ((name_of e ≡ codes "UUID") × ((u : NodeId) × (now ≡ Some u) × SaysId s cursor e u))

-- what all children make of it
abbrev pub LastId : Setting → Kind → Cursor → Content → Option NodeId → Option NodeId → Type 0
LastId s kind cursor content old now = ((now ≡ old) × HasNone (codes "UUID") content)
    ⊎ ((u : NodeId) × (now ≡ Some u) × LastSaysId s kind cursor content u)

ids_also : (s : Setting) (kind : Kind) (cursor : Cursor) (text : List ℕ) (e : Element) (more : Content) (a b c : Option NodeId)
    → ChildId s cursor e a b → LastId s kind (past_element s.form (child_kind s.form kind (name_of e)) cursor e) more b c → LastId s kind cursor (also text e more) a c
ids_also s kind cursor text e more a b c (inl h) (inl k) = inl (k.0 ∙ h.1, (h.0, k.1))
ids_also s kind cursor text e more a b c (inl h) (inr k) = inr (k.0, k.1, inr k.2)
ids_also s kind cursor text e more a b c (inr h) (inl k) = inr (h.1.0, k.0 ∙ h.1.1, inl (h.0, h.1.2, k.1))
ids_also s kind cursor text e more a b c (inr h) (inr k) = inr (k.0, k.1, inr k.2)

-- an element, and those after it
also_ids : {P : Type 0} (id_in : P → Option NodeId) (s : Setting) (kind : Kind) (there : Bool) (cursor : Cursor) (text : List ℕ) (e : Element) (more : Content) (p : P)
    (r : Result (P × Cursor) DocFail) (next : P × Cursor → Result (P × Cursor) DocFail)
    → Answering (first_cut_in e) (HasFault s (child_kind s.form kind (name_of e)) cursor e)
    (λ x. (x.1 ≡ past_element s.form (child_kind s.form kind (name_of e)) cursor e) × ChildId s cursor e (id_in p) (id_in x.0)) r
    → ((x : P × Cursor) → Answering (first_cut more) (HasFaultIn s kind (there || may_stand_once kind (name_of e)) x.1 more)
    (λ y. (y.1 ≡ past_children s.form kind x.1 more) × LastId s kind x.1 more (id_in x.0) (id_in y.0)) (next x))
    → Answering (option_or (first_cut_in e) (first_cut more)) (HasFaultIn s kind there cursor (also text e more))
    (λ y. (y.1 ≡ past_children s.form kind cursor (also text e more)) × LastId s kind cursor (also text e more) (id_in p) (id_in y.0)) (r >>= next)
also_ids id_in s kind there cursor text e more p r next h f =
    let now = there || may_stand_once kind (name_of e) in
    let later = past_element s.form (child_kind s.form kind (name_of e)) cursor e in
    and_siblings (first_cut_in e) (first_cut more) (HasFault s (child_kind s.form kind (name_of e)) cursor e) (HasFaultIn s kind now later more) (HasFaultIn s kind there cursor (also text e more))
    (λ x. (x.1 ≡ later) × ChildId s cursor e (id_in p) (id_in x.0))
    (λ y. (y.1 ≡ past_children s.form kind later more) × LastId s kind cursor (also text e more) (id_in p) (id_in y.0))
    (λ fail c. inl c) (λ fail c. inr (inr c)) r next h
    (λ x is. with_more (first_cut more) (HasFaultIn s kind now later more) (λ y. (y.1 ≡ past_children s.form kind later more) × LastId s kind later more (id_in x.0) (id_in y.0))
    (λ y. (y.1 ≡ past_children s.form kind later more) × LastId s kind cursor (also text e more) (id_in p) (id_in y.0))
    (λ y k. (k.0, ids_also s kind cursor text e more (id_in p) (id_in x.0) (id_in y.0) is.1 k.1)) (next x)
    (subst (λ (c : Cursor). Answering (first_cut more) (HasFaultIn s kind now c more) (λ y. (y.1 ≡ past_children s.form kind c more) × LastId s kind c more (id_in x.0) (id_in y.0)) (next x)) is.0 (f x)))

-- an element of a node's id
own_id_said : {P : Type 0} (s : Setting) (keep : P → NodeId → P) (p : P) (e : Element) (cursor : Cursor)
    → IfOk (own_id s keep p e cursor) (λ x. (u : NodeId) × (x.0 ≡ keep p u) × SaysId s cursor e u)
own_id_said s keep p (element offset name raw content) cursor =
    let rule : ElementText → Option NodeId = λ x. id (trim (text_bytes x)) in
    let later = past_children s.form (value_kind in_own_id) cursor content in
    let Said : NodeId × Cursor → Type 0 = λ x. (x.1 ≡ past_text raw (own_text content) later) × IsSaidBy rule s later raw (own_text content) x.0 in
    then_if Said (λ x. (u : NodeId) × (x.0 ≡ keep p u) × SaysId s cursor (element offset name raw content) u) (value_by s rule offset raw content cursor) (λ x. Ok (keep p x.0, x.1))
    (facts_of (first_cut content) (HasFault s (value_kind in_own_id) cursor (element offset name raw content)) Said (value_by s rule offset raw content cursor)
    (by_told s in_own_id rule (λ x none. ap is_some none) offset name raw content cursor))
    (λ x said. (x.0, refl, said.1))

pub name_is : (e : Element) (name : List ℕ) → bytes_eq (name_of e) name ≡ true → name_of e ≡ name
name_is e name h = (bytes_eq-Decides (name_of e) name).0 h

pub name_is_not : (e : Element) (name : List ℕ) → bytes_eq (name_of e) name ≡ false → name_of e ≢ name
name_is_not e name h = λ same. apart (bytes_eq (name_of e) name) ((bytes_eq-Decides (name_of e) name).1 same) h

-- the rows of a node: that of its id, and others that leave the id as it is
ids_of_rows : {P : Type 0} (id_in : P → Option NodeId) (s : Setting) (keep : P → NodeId → P) (rows : List (List ℕ × Child P))
    → ((p : P) (u : NodeId) → id_in (keep p u) ≡ Some u) → AllKeep id_in rows
    → (p : P) (e : Element) (cursor : Cursor) → IfOk (by_name s ((codes "UUID", own_id s keep) ∷ rows) p e cursor) (λ x. ChildId s cursor e (id_in p) (id_in x.0))
ids_of_rows id_in s keep rows kept same p e cursor =
    if_of_two (λ x. ChildId s cursor e (id_in p) (id_in x.0)) (bytes_eq (name_of e) (codes "UUID")) (own_id s keep p e cursor) (by_name s rows p e cursor)
    (λ is. if_more (own_id s keep p e cursor) (own_id_said s keep p e cursor) (λ x h. inr (name_is e (codes "UUID") is, (h.0, ap id_in h.1 ∙ kept p h.0, h.2))))
    (λ is. if_more (by_name s rows p e cursor) (names_keep id_in s rows same p e cursor) (λ x h. inl (name_is_not e (codes "UUID") is, h)))
  where
    if_more : {X : Type 0} {So Then : X → Type 0} (r : Result X DocFail) → IfOk r So → ((x : X) → So x → Then x) → IfOk r Then
    if_more (Ok x) h f = f x h
    if_more (Err fail) h f = tt

abbrev IdFault : ℕ → Option NodeId → DocFail → Type 0
IdFault offset o fail = ((fail ≡ MissingElement Uuid offset) × (o ≡ None)) ⊎ ((fail ≡ NilId offset) × (o ≡ Some nil_id))

id_told : (offset : ℕ) (o : Option NodeId) → Ending (IdFault offset o) (λ u. Unit {0}) (node_id offset o)
id_told offset None = inl (refl, refl)
id_told offset (Some u) =
    end_of_two (IdFault offset (Some u)) (λ v. Unit {0}) (bytes_eq u nil_id) (Err (NilId offset)) (Ok u)
    (λ nil. inr (refl, ap Some ((bytes_eq-Decides u nil_id).0 nil))) (λ is. tt)

abbrev id_or : NodeId → Option NodeId → NodeId
id_or u None = u
id_or u (Some v) = v

none_some : {A B : Type 0} (x : A) (o : Option A) → o ≡ None → o ≡ Some x → B
none_some x o none some = cc (sym none ∙ some)

lacks_id : (s : Setting) (kind : Kind) (cursor : Cursor) (offset : ℕ) (content : Content) (o : Option NodeId) → LastId s kind cursor content None o
    → (fail : DocFail) → IdFault offset o fail → LacksId s kind cursor offset content fail
lacks_id s kind cursor offset content o (inl h) fail (inl k) = inl (k.0, h.1)
lacks_id s kind cursor offset content o (inr h) fail (inl k) = none_some h.0 o k.1 h.1
lacks_id s kind cursor offset content o (inl h) fail (inr k) = none_some nil_id o h.0 k.1
lacks_id s kind cursor offset content o (inr h) fail (inr k) = inr (k.0, subst (λ (u : NodeId). LastSaysId s kind cursor content u) (ap (id_or nil_id) (sym h.1 ∙ k.1)) h.2)

-- ---- history

history_item_rows_told : (s : Setting) → AreTold s (history_item_rows s) (names_in s.form history_item_kind)
history_item_rows_told s = refl & some_id_row s (λ p v. p) & refl & id_row s nil_id (λ p v. p) & version_rows_told s

history_item_told : (s : Setting) → IsTold s history_item_kind (history_item s)
history_item_told s p (element offset name raw content) cursor =
    let later = past_children s.form history_item_kind cursor content in
    let text = own_text content in
    let Fault = HasFault s history_item_kind cursor (element offset name raw content) in
    and_ending (first_cut content) Fault (λ x. x.1 ≡ past_node history_item_kind (past_text raw text later)) (λ x. x.1 ≡ past_node history_item_kind (past_text raw text later))
    (history_item_at s offset raw content cursor) (λ x. Ok (p ++ x.0 ∷ [], x.1))
    (and_ending (first_cut content) Fault (λ x. (x.1 ≡ past_text raw text later) × Unit {0}) (λ x. x.1 ≡ past_node history_item_kind (past_text raw text later))
    (children_and_end s (by_name s (history_item_rows s)) offset raw [] content no_entry cursor) _
    (within_told s history_item_kind (λ q. Unit {0}) (by_name s (history_item_rows s)) offset name raw content no_entry cursor
    (rows_told s history_item_kind (history_item_rows s) (history_item_rows_told s) false content no_entry cursor))
    (λ x is. ends_then Fault (λ c. c ≡ past_node history_item_kind (past_text raw text later)) (λ y. y.1 ≡ past_node history_item_kind (past_text raw text later)) (count_node x.1) _
    (counted Fault raw text later x.1 is.0 (λ fail h. inr (inr h))) (λ c is. is)))
    (λ x is. is)

history_rows_told : (s : Setting) → AreTold s (history_rows s) (names_in s.form history_kind)
history_rows_told s = refl & history_item_told s & tt

-- ---- entries

entry_rows_told : (s : Setting) → AreTold s (entry_rows s) (names_in s.form entry_kind)
entry_rows_told s =
    refl & own_id_row s _ & refl & container_told s history_kind refl (history_rows s) [] _ (history_rows_told s) & refl & id_row s nil_id _ & version_rows_told s

-- the rows after the first
abbrev rest_rows : {A : Type 0} → List A → List A
rest_rows [] = []
rest_rows (row ∷ rows) = rows

abbrev entry_id : EntryParts → Option NodeId
entry_id p = p.id

version_ids : (s : Setting) → AllKeep entry_id (version_rows s)
version_ids s =
    value_keeps entry_id s _ (λ p v. refl) _ & value_keeps entry_id s _ (λ p v. refl) _ & value_keeps entry_id s _ (λ p v. refl) _ & value_keeps entry_id s _ (λ p v. refl) _
    & value_keeps entry_id s _ (λ p v. refl) _ & value_keeps entry_id s _ (λ p v. refl) _ & value_keeps entry_id s _ (λ p v. refl) _
    & container_keeps entry_id s (λ p v. record p { times = v }) (λ p v. refl) (times_rows s) no_times
    & container_keeps entry_id s with_field (λ p v. refl) (field_rows s) no_field
    & container_keeps entry_id s with_attachment (λ p v. refl) (attachment_rows s) no_attachment
    & container_keeps entry_id s (λ p v. with_content (λ c. record c { auto_type = v }) p) (λ p v. refl) (auto_type_rows s) no_auto_type
    & container_keeps entry_id s (λ p v. with_content (λ c. record c { items = v }) p) (λ p v. refl) (items_rows s) [] & tt

entry_ids : (s : Setting) → AllKeep entry_id (rest_rows (entry_rows s))
entry_ids s = container_keeps entry_id s (λ p v. record p { history = v }) (λ p v. refl) (history_rows s) [] & value_keeps entry_id s _ (λ p v. refl) _ & version_ids s

entry_child : (s : Setting) (p : EntryParts) (e : Element) (cursor : Cursor)
    → Answering (first_cut_in e) (HasFault s (child_kind s.form entry_kind (name_of e)) cursor e)
    (λ x. (x.1 ≡ past_element s.form (child_kind s.form entry_kind (name_of e)) cursor e) × ChildId s cursor e p.id x.0.id) (by_name s (entry_rows s) p e cursor)
entry_child s p e cursor =
    with_fact (first_cut_in e) (HasFault s (child_kind s.form entry_kind (name_of e)) cursor e) (λ x. x.1 ≡ past_element s.form (child_kind s.form entry_kind (name_of e)) cursor e)
    (λ x. ChildId s cursor e p.id x.0.id) (by_name s (entry_rows s) p e cursor)
    (names_told s (entry_rows s) (names_in s.form entry_kind) (entry_rows_told s) p e cursor)
    (ids_of_rows entry_id s (λ q u. record q { id = Some u }) (rest_rows (entry_rows s)) (λ q u. refl) (entry_ids s) p e cursor)

entry_all : (s : Setting) (there : Bool) (content : Content) (p : EntryParts) (cursor : Cursor)
    → Answering (first_cut content) (HasFaultIn s entry_kind there cursor content)
    (λ x. (x.1 ≡ past_children s.form entry_kind cursor content) × LastId s entry_kind cursor content p.id x.0.id) (all_children (by_name s (entry_rows s)) content p cursor)
entry_all s there (last text) p cursor = (refl, (refl, inl (refl, tt)))
entry_all s there (also text e more) p cursor =
    also_ids entry_id s entry_kind there cursor text e more p (by_name s (entry_rows s) p e cursor) (λ x. all_children (by_name s (entry_rows s)) more x.0 x.1)
    (entry_child s p e cursor) (λ x. entry_all s (there || may_stand_once entry_kind (name_of e)) more x.0 x.1)
entry_all s there (cut text answer) p cursor =
    cut_answers (HasFaultIn s entry_kind there cursor (cut text answer)) (λ x. (x.1 ≡ cursor) × LastId s entry_kind cursor (cut text answer) p.id x.0.id) answer

pub entry_told : {P : Type 0} (s : Setting) (keep : P → ReadEntry → P) → IsTold s entry_kind (entry s keep)
entry_told s keep p (element offset name raw content) cursor =
    let later = past_children s.form entry_kind cursor content in
    let text = own_text content in
    let Fault = HasFault s entry_kind cursor (element offset name raw content) in
    let ended = past_node entry_kind (past_text raw text later) in
    and_ending (first_cut content) Fault (λ x. x.1 ≡ ended) (λ x. x.1 ≡ ended)
    (entry_at s offset raw content cursor) (λ x. Ok (keep p x.0, x.1))
    (and_ending (first_cut content) Fault (λ x. (x.1 ≡ past_text raw text later) × LastId s entry_kind cursor content None x.0.id) (λ x. x.1 ≡ ended)
    (children_and_end s (by_name s (entry_rows s)) offset raw [] content no_entry cursor) _
    (within_told s entry_kind (λ (q : EntryParts). LastId s entry_kind cursor content None q.id) (by_name s (entry_rows s)) offset name raw content no_entry cursor
    (entry_all s false content no_entry cursor))
    (λ x is. ends_then Fault (λ c. c ≡ ended) (λ y. y.1 ≡ ended) (count_node x.1) _
    (counted Fault raw text later x.1 is.0 (λ fail h. inr (inr (inl h))))
    (λ c past. ends_then Fault (λ u. Unit {0}) (λ y. y.1 ≡ ended) (node_id offset x.0.id) (λ u. Ok (entry_of u x.0, c))
    (end_cause (IdFault offset x.0.id) Fault (λ u. Unit {0}) (λ fail h. inr (inr (inr (lacks_id s entry_kind cursor offset content x.0.id is.1 fail h)))) (node_id offset x.0.id) (id_told offset x.0.id))
    (λ u any. past))))
    (λ x is. is)

-- ---- groups

group_rows_told : (s : Setting) → AreTold s (group_rows s) group_names
group_rows_told s =
    refl & own_id_row s _ & refl & text_row s _ & refl & text_row s _ & refl & text_row s _ & refl & number32_row s _ _ & refl & some_id_row s _
    & refl & times_told s _ & refl & boolean_row s _ _ & refl & text_row s _ & refl & choice_row s _ _ & refl & choice_row s _ _
    & refl & id_row s _ _ & refl & id_row s _ _ & refl & items_told s _ & refl & entry_told s _ & tt

abbrev group_id : GroupParts → Option NodeId
group_id p = p.id

group_tail : (s : Setting) → AllKeep group_id (rest_rows (group_rows s))
group_tail s =
    value_keeps group_id s _ (λ p v. refl) _ & value_keeps group_id s _ (λ p v. refl) _ & value_keeps group_id s _ (λ p v. refl) _ & value_keeps group_id s _ (λ p v. refl) _
    & value_keeps group_id s _ (λ p v. refl) _ & container_keeps group_id s (λ p v. record p { times = v }) (λ p v. refl) (times_rows s) no_times
    & value_keeps group_id s _ (λ p v. refl) _ & value_keeps group_id s _ (λ p v. refl) _ & value_keeps group_id s _ (λ p v. refl) _ & value_keeps group_id s _ (λ p v. refl) _
    & value_keeps group_id s _ (λ p v. refl) _ & value_keeps group_id s _ (λ p v. refl) _
    & container_keeps group_id s (λ p v. with_group_content (λ c. record c { items = v }) p) (λ p v. refl) (items_rows s) []
    & entry_keeps group_id s (λ p e. record p { entries = p.entries ++ e ∷ [] }) (λ p v. refl) & tt

group_ids : (s : Setting) (p : GroupParts) (e : Element) (cursor : Cursor) → IfOk (by_name s (group_rows s) p e cursor) (λ x. ChildId s cursor e p.id x.0.id)
group_ids s p e cursor = ids_of_rows group_id s (λ q u. record q { id = Some u }) (rest_rows (group_rows s)) (λ q u. refl) (group_tail s) p e cursor

-- a group is refused, or it may not be there
abbrev pub GroupFault : Setting → ℕ → Bool → Cursor → Element → DocFail → Type 0
GroupFault s levels fits cursor e fail = HasFault s (group_kind levels) cursor e fail ⊎ ((fail ≡ BadValue (offset_of e)) × (fits ≡ false))

deep_fault : (s : Setting) (cursor : Cursor) (e : Element) → HasFault s deep_group_kind cursor e (TooDeep (offset_of e))
deep_fault s cursor (element offset name raw content) = inr (inr refl)

no_group_name : (e : Element) → name_of e ≡ codes "Group" → name_of e ≢ codes "UUID"
no_group_name e is = λ same. apart (bytes_eq (name_of e) (codes "UUID")) ((bytes_eq-Decides (name_of e) (codes "UUID")).1 same) (ap (λ (n : List ℕ). bytes_eq n (codes "UUID")) is)

module _ (s : Setting) (levels : ℕ) (p : GroupParts) (e : Element) (cursor : Cursor) where
  abbrev deeper : Result (GroupParts × Cursor) DocFail
  deeper = group s (levels - 1) true e cursor >>= λ x. Ok (record p { groups = append_tree p.groups x.0 }, x.1)

  abbrev IsGroupChild : Kind → GroupParts × Cursor → Type 0
  IsGroupChild kind x = (x.1 ≡ past_element s.form kind cursor e) × ChildId s cursor e p.id x.0.id

  module _ (inner : Answering (first_cut_in e) (GroupFault s (levels - 1) true cursor e) (λ x. x.1 ≡ past_element s.form (group_kind (levels - 1)) cursor e) (group s (levels - 1) true e cursor)) where
    by_level : (b : Bool) → name_of e ≡ codes "Group"
        → Answering (first_cut_in e) (HasFault s (cond b deep_group_kind (group_kind (levels - 1))) cursor e) (IsGroupChild (cond b deep_group_kind (group_kind (levels - 1))))
        (cond b (Err (TooDeep (offset_of e))) deeper)
    by_level true is = inl (deep_fault s cursor e)
    by_level false is =
        and_ending (first_cut_in e) (HasFault s (group_kind (levels - 1)) cursor e) (λ x. x.1 ≡ past_element s.form (group_kind (levels - 1)) cursor e) (IsGroupChild (group_kind (levels - 1)))
        (group s (levels - 1) true e cursor) (λ x. Ok (record p { groups = append_tree p.groups x.0 }, x.1))
        (with_cause (first_cut_in e) (GroupFault s (levels - 1) true cursor e) (λ x. x.1 ≡ past_element s.form (group_kind (levels - 1)) cursor e) (HasFault s (group_kind (levels - 1)) cursor e)
        (λ fail h. elim h [ inl a ↦ a | inr a ↦ absurd (cc a.1) ]) (group s (levels - 1) true e cursor) inner)
        (λ x past. (past, inl (no_group_name e is, refl)))

    by_group : (b : Bool) → bytes_eq (name_of e) (codes "Group") ≡ b
        → Answering (first_cut_in e) (HasFault s (cond b (inner_group_kind levels) (kind_named group_names (name_of e))) cursor e) (IsGroupChild (cond b (inner_group_kind levels) (kind_named group_names (name_of e))))
        (cond b (cond (levels == 0) (Err (TooDeep (offset_of e))) deeper) (by_name s (group_rows s) p e cursor))
    by_group true is = by_level (levels == 0) (name_is e (codes "Group") is)
    by_group false is =
        with_fact (first_cut_in e) (HasFault s (kind_named group_names (name_of e)) cursor e) (λ x. x.1 ≡ past_element s.form (kind_named group_names (name_of e)) cursor e)
        (λ x. ChildId s cursor e p.id x.0.id) (by_name s (group_rows s) p e cursor)
        (names_told s (group_rows s) group_names (group_rows_told s) p e cursor) (group_ids s p e cursor)

    group_child_told : Answering (first_cut_in e) (HasFault s (child_kind s.form (group_kind levels) (name_of e)) cursor e) (IsGroupChild (child_kind s.form (group_kind levels) (name_of e)))
        (group_child s levels p e cursor)
    group_child_told = by_group (bytes_eq (name_of e) (codes "Group")) refl

group_end_told : (s : Setting) (levels : ℕ) (fits : Bool) (offset : ℕ) (name raw : List ℕ) (content : Content) (cursor : Cursor) (p : GroupParts) (now : Cursor)
    → now ≡ past_children s.form (group_kind levels) cursor content → LastId s (group_kind levels) cursor content None p.id
    → Ending (GroupFault s levels fits cursor (element offset name raw content)) (λ x. x.1 ≡ past_element s.form (group_kind levels) cursor (element offset name raw content))
    (group_end s fits offset raw (own_text content) p now)
group_end_told s levels fits offset name raw content cursor p now is ids =
    let later = past_children s.form (group_kind levels) cursor content in
    let text = own_text content in
    let Fault = GroupFault s levels fits cursor (element offset name raw content) in
    let ended = past_node (group_kind levels) (past_text raw text later) in
    ends_then Fault (SaysAtEnd s later raw text) (λ x. x.1 ≡ ended) (text_at_end s offset raw text now) _
    (end_cause (HidesAt s offset raw text) Fault (SaysAtEnd s later raw text) (λ fail h. inl (text_fault s (group_kind levels) cursor offset name raw content fail h))
    (text_at_end s offset raw text now) (end_says_at s offset raw text now later is))
    (λ y said. ends_then Fault (λ c. c ≡ ended) (λ x. x.1 ≡ ended) (cond fits (count_node y.1) (Err (BadValue offset))) _
    (end_of_two Fault (λ c. c ≡ ended) fits (count_node y.1) (Err (BadValue offset))
    (λ yes. counted Fault raw text later y.1 said.1 (λ fail h. inl (inr (inr (inl h))))) (λ alone. inr (refl, alone)))
    (λ c past. ends_then Fault (λ u. Unit {0}) (λ x. x.1 ≡ ended) (node_id offset p.id) (λ u. Ok (node u (record_of p) p.entries p.groups, c))
    (end_cause (IdFault offset p.id) Fault (λ u. Unit {0}) (λ fail h. inl (inr (inr (inr (lacks_id s (group_kind levels) cursor offset content p.id ids fail h))))) (node_id offset p.id) (id_told offset p.id))
    (λ u any. past)))

mutual
  pub group_told : (s : Setting) (levels : ℕ) (fits : Bool) (e : Element) (cursor : Cursor)
      → Answering (first_cut_in e) (GroupFault s levels fits cursor e) (λ x. x.1 ≡ past_element s.form (group_kind levels) cursor e) (group s levels fits e cursor)
  group_told s levels fits (element offset name raw content) cursor =
      and_ending (first_cut content) (GroupFault s levels fits cursor (element offset name raw content))
      (λ x. (x.1 ≡ past_children s.form (group_kind levels) cursor content) × LastId s (group_kind levels) cursor content None x.0.id)
      (λ x. x.1 ≡ past_element s.form (group_kind levels) cursor (element offset name raw content))
      (group_parts s levels content no_group cursor) (λ x. group_end s fits offset raw (own_text content) x.0 x.1)
      (with_cause (first_cut content) (HasFaultIn s (group_kind levels) false cursor content)
      (λ x. (x.1 ≡ past_children s.form (group_kind levels) cursor content) × LastId s (group_kind levels) cursor content None x.0.id)
      (GroupFault s levels fits cursor (element offset name raw content)) (λ fail h. inl (inl h)) (group_parts s levels content no_group cursor) (group_all s levels false content no_group cursor))
      (λ x is. group_end_told s levels fits offset name raw content cursor x.0 x.1 is.0 is.1)

  group_all : (s : Setting) (levels : ℕ) (there : Bool) (content : Content) (p : GroupParts) (cursor : Cursor)
      → Answering (first_cut content) (HasFaultIn s (group_kind levels) there cursor content)
      (λ x. (x.1 ≡ past_children s.form (group_kind levels) cursor content) × LastId s (group_kind levels) cursor content p.id x.0.id) (group_parts s levels content p cursor)
  group_all s levels there (last text) p cursor = (refl, (refl, inl (refl, tt)))
  group_all s levels there (also text e more) p cursor =
      also_ids group_id s (group_kind levels) there cursor text e more p (group_child s levels p e cursor) (λ x. group_parts s levels more x.0 x.1)
      (group_child_told s levels p e cursor (group_told s (levels - 1) true e cursor))
      (λ x. group_all s levels (there || may_stand_once (group_kind levels) (name_of e)) more x.0 x.1)
  group_all s levels there (cut text answer) p cursor =
      cut_answers (HasFaultIn s (group_kind levels) there cursor (cut text answer)) (λ x. (x.1 ≡ cursor) × LastId s (group_kind levels) cursor (cut text answer) p.id x.0.id) answer

-- ---- `Root` and `KeePassFile`

or_true : (b : Bool) → true ≡ (b || true)
or_true true = refl
or_true false = refl

or_false : (b : Bool) → b ≡ (b || false)
or_false true = refl
or_false false = refl

not_false : (b : Bool) → not b ≡ false → b ≡ true
not_false true h = refl
not_false false h = cc h

-- what is known of a child that may stand once
abbrev OnceTold : {P : Type 0} → Setting → Kind → Bool → Cursor → Element → (P → Bool) → Result (P × Cursor) DocFail → Type 0
OnceTold s kind there cursor e has r = Answering (first_cut_in e) (ChildFault s kind there cursor e)
    (λ x. (x.1 ≡ past_element s.form (child_kind s.form kind (name_of e)) cursor e) × (has x.0 ≡ (there || may_stand_once kind (name_of e)))) r

abbrev tail_names : Names
tail_names = (codes "DeletedObjects", tombs_kind) ∷ []

abbrev has_tree : RootParts → Bool
has_tree p = is_some p.tree

abbrev pub tail_rows : Setting → List (List ℕ × Child RootParts)
tail_rows s = (codes "DeletedObjects", container s (tombs_rows s) [] (λ p v. record p { tombs = v })) ∷ []

root_child : (s : Setting) (there : Bool) (p : RootParts) (e : Element) (cursor : Cursor) → has_tree p ≡ there
    → OnceTold s root_kind there cursor e has_tree (by_name s (root_rows s) p e cursor)
root_child s there p e cursor fits = by (bytes_eq (name_of e) (codes "Group"))
  where
    by : (b : Bool) → Answering (first_cut_in e)
        (λ fail. HasFault s (cond b (group_kind 127) (kind_named tail_names (name_of e))) cursor e fail ⊎ ((fail ≡ BadValue (offset_of e)) × (there ≡ true) × (b ≡ true)))
        (λ x. (x.1 ≡ past_element s.form (cond b (group_kind 127) (kind_named tail_names (name_of e))) cursor e) × (has_tree x.0 ≡ (there || b)))
        (cond b (root_group s p e cursor) (by_name s (tail_rows s) p e cursor))
    by true =
        let Cause : DocFail → Type 0 = λ fail. HasFault s (group_kind 127) cursor e fail ⊎ ((fail ≡ BadValue (offset_of e)) × (there ≡ true) × (true ≡ true)) in
        and_ending (first_cut_in e) Cause (λ x. x.1 ≡ past_element s.form (group_kind 127) cursor e) (λ x. (x.1 ≡ past_element s.form (group_kind 127) cursor e) × (has_tree x.0 ≡ (there || true)))
        (group s 127 (not (is_some p.tree)) e cursor) (λ x. Ok (record p { tree = Some x.0 }, x.1))
        (with_cause (first_cut_in e) (GroupFault s 127 (not (is_some p.tree)) cursor e) (λ x. x.1 ≡ past_element s.form (group_kind 127) cursor e) Cause
        (λ fail h. elim h [ inl a ↦ inl a | inr a ↦ inr (a.0, sym fits ∙ not_false (is_some p.tree) a.1, refl) ]) (group s 127 (not (is_some p.tree)) e cursor) (group_told s 127 (not (is_some p.tree)) e cursor))
        (λ x past. (past, or_true there))
    by false =
        let kind = kind_named tail_names (name_of e) in
        let Cause : DocFail → Type 0 = λ fail. HasFault s kind cursor e fail ⊎ ((fail ≡ BadValue (offset_of e)) × (there ≡ true) × (false ≡ true)) in
        with_cause (first_cut_in e) (HasFault s kind cursor e) (λ x. (x.1 ≡ past_element s.form kind cursor e) × (has_tree x.0 ≡ (there || false))) Cause (λ fail h. inl h) (by_name s (tail_rows s) p e cursor)
        (with_more (first_cut_in e) (HasFault s kind cursor e) (λ x. (x.1 ≡ past_element s.form kind cursor e) × (has_tree x.0 ≡ has_tree p)) (λ x. (x.1 ≡ past_element s.form kind cursor e) × (has_tree x.0 ≡ (there || false)))
        (λ x h. (h.0, h.1 ∙ (fits ∙ or_false there))) (by_name s (tail_rows s) p e cursor)
        (with_fact (first_cut_in e) (HasFault s kind cursor e) (λ x. x.1 ≡ past_element s.form kind cursor e) (λ x. has_tree x.0 ≡ has_tree p) (by_name s (tail_rows s) p e cursor)
        (names_told s (tail_rows s) tail_names (refl & container_told s tombs_kind refl (tombs_rows s) [] _ (tombs_rows_told s) & tt) p e cursor)
        (names_keep has_tree s (tail_rows s) (container_keeps has_tree s _ (λ q v. refl) (tombs_rows s) [] & tt) p e cursor)))

-- `Root` is refused, or it is a second one
abbrev RootFault : Setting → Bool → Cursor → Element → DocFail → Type 0
RootFault s there cursor e fail = HasFault s root_kind cursor e fail ⊎ ((fail ≡ BadValue (offset_of e)) × (there ≡ true))

abbrev has_root : FileParts → Bool
has_root p = is_some p.root

root_told : (s : Setting) (there : Bool) (p : FileParts) (e : Element) (cursor : Cursor) → has_root p ≡ there
    → Answering (first_cut_in e) (RootFault s there cursor e) (λ x. (x.1 ≡ past_element s.form root_kind cursor e) × (has_root x.0 ≡ true)) (root s p e cursor)
root_told s there p (element offset name raw content) cursor fits =
    let later = past_text raw (own_text content) (past_children s.form root_kind cursor content) in
    let Fault = RootFault s there cursor (element offset name raw content) in
    and_ending (first_cut content) Fault (λ x. (x.1 ≡ later) × Unit {0}) (λ x. (x.1 ≡ later) × (has_root x.0 ≡ true))
    (children_and_end s (by_name s (root_rows s)) offset raw [] content no_root cursor) _
    (with_cause (first_cut content) (HasFault s root_kind cursor (element offset name raw content)) (λ x. (x.1 ≡ later) × Unit {0}) Fault (λ fail h. inl h)
    (children_and_end s (by_name s (root_rows s)) offset raw [] content no_root cursor)
    (within_told s root_kind (λ q. Unit {0}) (by_name s (root_rows s)) offset name raw content no_root cursor
    (all_told s root_kind (λ b q. has_tree q ≡ b) (by_name s (root_rows s)) (root_child s) false content no_root cursor refl)))
    (λ x is. end_of_two Fault (λ y. (y.1 ≡ later) × (has_root y.0 ≡ true)) (is_some p.root) (Err (BadValue offset)) (Ok (record p { root = Some x.0 }, x.1))
    (λ yes. inr (refl, sym fits ∙ yes)) (λ fresh. (is.0, refl)))

file_child : (s : Setting) (there : Bool) (p : FileParts) (e : Element) (cursor : Cursor) → has_root p ≡ there
    → OnceTold s file_kind there cursor e has_root (by_name s (file_rows s) p e cursor)
file_child s there p e cursor fits = by (bytes_eq (name_of e) (codes "Meta")) refl (bytes_eq (name_of e) (codes "Root")) refl
  where
    kind : Bool → Bool → Kind
    kind b c = cond b meta_kind (cond c root_kind unknown_kind)

    Cause : Bool → Bool → DocFail → Type 0
    Cause b c fail = HasFault s (kind b c) cursor e fail ⊎ ((fail ≡ BadValue (offset_of e)) × (there ≡ true) × (c ≡ true))

    So : Bool → Bool → FileParts × Cursor → Type 0
    So b c x = (x.1 ≡ past_element s.form (kind b c) cursor e) × (has_root x.0 ≡ (there || c))

    plain : (k : Kind) (r : Result (FileParts × Cursor) DocFail) → Told s k cursor e r → IfOk r (λ x. has_root x.0 ≡ has_root p)
        → Answering (first_cut_in e) (λ fail. HasFault s k cursor e fail ⊎ ((fail ≡ BadValue (offset_of e)) × (there ≡ true) × (false ≡ true)))
        (λ x. (x.1 ≡ past_element s.form k cursor e) × (has_root x.0 ≡ (there || false))) r
    plain k (Ok x) h same = (h.0, (h.1, same ∙ (fits ∙ or_false there)))
    plain k (Err fail) (inl h) same = inl (inl h)
    plain k (Err fail) (inr h) same = inr h

    by : (b : Bool) → bytes_eq (name_of e) (codes "Meta") ≡ b → (c : Bool) → bytes_eq (name_of e) (codes "Root") ≡ c
        → Answering (first_cut_in e) (Cause b c) (So b c) (cond b (metas s (λ q v. record q { meta = v }) p e cursor) (cond c (root s p e cursor) (unknown_child s p e cursor)))
    by true meta true is = absurd (apart (bytes_eq (name_of e) (codes "Root")) is (ap (λ (n : List ℕ). bytes_eq n (codes "Root")) (name_is e (codes "Meta") meta)))
    by true meta false is =
        plain meta_kind (metas s (λ q v. record q { meta = v }) p e cursor) (metas_told s (λ q v. record q { meta = v }) p e cursor)
        (container_keeps has_root s (λ q v. record q { meta = v }) (λ q v. refl) (meta_rows s) no_meta p e cursor)
    by false meta true is =
        with_more (first_cut_in e) (Cause false true) (λ x. (x.1 ≡ past_element s.form root_kind cursor e) × (has_root x.0 ≡ true)) (So false true) (λ x h. (h.0, h.1 ∙ or_true there)) (root s p e cursor)
        (with_cause (first_cut_in e) (RootFault s there cursor e) (λ x. (x.1 ≡ past_element s.form root_kind cursor e) × (has_root x.0 ≡ true)) (Cause false true)
        (λ fail h. elim h [ inl a ↦ inl a | inr a ↦ inr (a.0, a.1, refl) ]) (root s p e cursor) (root_told s there p e cursor fits))
    by false meta false is = plain unknown_kind (unknown_child s p e cursor) (names_told s [] [] tt p e cursor) (names_keep has_root s [] tt p e cursor)

file_told : (s : Setting) (keep : Option FileParts → FileParts → Option FileParts) → IsTold s file_kind (container s (file_rows s) no_file_parts keep)
file_told s keep p (element offset name raw content) cursor =
    let later = past_text raw (own_text content) (past_children s.form file_kind cursor content) in
    and_ending (first_cut content) (HasFault s file_kind cursor (element offset name raw content)) (λ x. (x.1 ≡ later) × Unit {0}) (λ x. x.1 ≡ later)
    (children_and_end s (by_name s (file_rows s)) offset raw [] content no_file_parts cursor) (λ x. Ok (keep p x.0, x.1))
    (within_told s file_kind (λ q. Unit {0}) (by_name s (file_rows s)) offset name raw content no_file_parts cursor
    (all_told s file_kind (λ b q. has_root q ≡ b) (by_name s (file_rows s)) (file_child s) false content no_file_parts cursor refl))
    (λ x is. is.0)

pub document_rows_told : (s : Setting) → AreTold s (document_rows s) (names_in s.form text_kind)
document_rows_told s = refl & file_told s _ & tt
