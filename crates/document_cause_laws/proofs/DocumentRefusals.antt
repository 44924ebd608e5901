-- Refusals of the text of a document have their causes.
use Rattle.std.proofs.Common.{◌≡◌, ◌≢◌, ◌⊎◌, inl, inr, ℕ, Bool, true, false, cond, Option, Some, None, is_some, not, List, [], ◌∷◌, codes, Result, Ok, Err, IfOk, bytes_eq, refl, sym, ap, subst, ◌∙◌}
use Rattle.outside_core.specs.Results.{◌>>=◌}
use Rattle.markup_grammar.specs.Answers.{Answer, EndsOnce, depth, finish, finishes, form, refusal_of, start, stop, words}
use Rattle.markup_grammar.specs.Elements.{Content, Element, also, cut, element, last, own_text}
use Rattle.markup_grammar.specs.Faults.{IsFault}
use Rattle.markup_grammar.specs.Reading.{answers}
use Rattle.markup_grammar.specs.TreeElements.{element_at}
use Rattle.markup_grammar.proofs.CutsTold.{cuts_told}
use Rattle.markup_grammar.proofs.ElementsTold.{elements_told}
use Rattle.markup_grammar.proofs.Limit.{finished_texts}
use Rattle.markup_grammar.proofs.Refusals.{refusals}
use Rattle.markup_grammar.proofs.Verdicts.{verdicts}
use Rattle.std.proofs.lemmas.Slice.Eq.{bytes_eq-Decides}
use Rattle.vault_model.specs.Db.{NodeId}
use Rattle.vault_model.proofs.Tests.{apart}
use Rattle.doc_forms.specs.declared.cursor.Cursor.{Cursor}
use Rattle.doc_forms.specs.declared.fails.DocFail.{DocFail}
use Rattle.doc_forms.specs.declared.fails.DocFail.TheVariants.{BadValue, BinaryRef, Compressed, Depth, DuplicateId, Form, MissingElement, NilId, NoMemory, TooDeep, TooMany}
use Rattle.doc_forms.specs.declared.fails.RequiredElement.{RequiredElement}
use Rattle.doc_forms.specs.declared.fails.RequiredElement.TheVariants.{Group, KeePassFile, Root, Uuid}
use Rattle.doc_forms.specs.Attachments.{Missing, first_missing, missing_in, pool_from, refuse_missing}
use Rattle.doc_forms.specs.Children.{all_children, by_name, children_and_end, container, name_of, unknown_child}
use Rattle.doc_forms.specs.Documents.{FileParts, RootParts, document, document_rows, file_rows, no_file_parts, no_root, parts_at_end, parts_in, required_part, resolved_document, resolved_with, root, root_group, root_rows, tombs_rows}
use Rattle.doc_forms.specs.ElementTexts as texts
use Rattle.doc_forms.specs.ElementTexts.{ElementText, Setting, text_at_end}
use Rattle.doc_forms.specs.Groups.{ReadTree, group}
use Rattle.doc_forms.specs.Ids.{least_duplicate, refuse_duplicate}
use Rattle.doc_forms.specs.Metas.{ReadBinary, meta_rows, metas, no_meta}
use Rattle.doc_forms.specs.Refusals.{markup_refusal}
use Rattle.document_cause_laws.specs.DocumentCauses.{DocumentCause, DocumentRefusalsHaveCauses, IsChild, IsFile, LacksGroup, LacksRoot, SaysTree, elements_in, ids_in}
use Rattle.document_cause_laws.specs.ElementFaults.{HasFault, HasFaultIn, HasNone, OwnFault, past_children}
use Rattle.document_cause_laws.specs.ElementKinds.{Kind, association_kind, attachment_kind, attachment_value_kind, auto_type_kind, binaries_kind, binary_kind, deep_group_kind, entry_kind, field_kind, file_kind, group_kind, history_item_kind, history_kind, icon_kind, icons_kind, item_kind, items_kind, meta_kind, protection_kind, root_kind, text_kind, times_kind, tomb_kind, tombs_kind, unknown_kind, value_kind}
use Rattle.document_cause_laws.proofs.Answering.{Answering, IsCutBy, fail_in, refusal_by, same_fail}
use Rattle.document_cause_laws.proofs.NodeFaults.{container_keeps, document_rows_told, if_of_two, name_is, name_is_not, names_keep, tail_rows, then_if}
use Rattle.document_cause_laws.proofs.RowFaults.{◌&◌, rows_told}
use Rattle.document_cause_laws.proofs.TreeRefusals.{first_of, from_tree, in_tree, least_is, none_found, not_found, twice}

-- A refusal of two steps is one of the first, or one of the second after the first.
refused_at : {A B E : Type 0} (part : Result A E) (next : A → Result B E) (fail : E) → (part >>= next) ≡ Err fail → (part ≡ Err fail) ⊎ ((x : A) × ((part ≡ Ok x) × (next x ≡ Err fail)))
refused_at (Ok x) next fail h = inr (x, (refl, h))
refused_at (Err e) next fail h = inl (ap Err (ap (fail_in e) h))

-- ---- faults of elements

-- a refusal that an element may be the cause of
abbrev IsOfElement : DocFail → Type 0
IsOfElement (BadValue offset) = Unit {0}
IsOfElement (Compressed offset) = Unit {0}
IsOfElement (TooDeep offset) = Unit {0}
IsOfElement (TooMany n) = Unit {0}
IsOfElement (NilId offset) = Unit {0}
IsOfElement (MissingElement Uuid offset) = Unit {0}
IsOfElement (MissingElement KeePassFile offset) = ⊥
IsOfElement (MissingElement Root offset) = ⊥
IsOfElement (MissingElement Group offset) = ⊥
IsOfElement (Form offset) = ⊥
IsOfElement (Depth offset) = ⊥
IsOfElement (DuplicateId u) = ⊥
IsOfElement (BinaryRef number) = ⊥
IsOfElement NoMemory = ⊥

own_element : (s : Setting) (kind : Kind) (cursor later : Cursor) (offset : ℕ) (raw : List ℕ) (content : Content) (fail : DocFail)
    → OwnFault s kind cursor later offset raw content fail → IsOfElement fail
own_element s (value_kind f) cursor later offset raw content fail h = subst IsOfElement (sym h.0) tt
own_element s attachment_value_kind cursor later offset raw content fail (inl h) = subst IsOfElement (sym h.0) tt
own_element s attachment_value_kind cursor later offset raw content fail (inr h) = subst IsOfElement (sym h.0) tt
own_element s binary_kind cursor later offset raw content fail (inl h) = subst IsOfElement (sym h.0) tt
own_element s binary_kind cursor later offset raw content fail (inr h) = subst IsOfElement (sym h.0) tt
own_element s deep_group_kind cursor later offset raw content fail h = subst IsOfElement (sym h) tt
own_element s (group_kind levels) cursor later offset raw content fail (inl h) = subst IsOfElement (sym h.0) tt
own_element s (group_kind levels) cursor later offset raw content fail (inr (inl h)) = subst IsOfElement (sym h.0) tt
own_element s (group_kind levels) cursor later offset raw content fail (inr (inr h)) = subst IsOfElement (sym h.0) tt
own_element s entry_kind cursor later offset raw content fail (inl h) = subst IsOfElement (sym h.0) tt
own_element s entry_kind cursor later offset raw content fail (inr (inl h)) = subst IsOfElement (sym h.0) tt
own_element s entry_kind cursor later offset raw content fail (inr (inr h)) = subst IsOfElement (sym h.0) tt
own_element s history_item_kind cursor later offset raw content fail h = subst IsOfElement (sym h.0) tt
own_element s text_kind cursor later offset raw content fail h = absurd h
own_element s file_kind cursor later offset raw content fail h = absurd h
own_element s root_kind cursor later offset raw content fail h = absurd h
own_element s tombs_kind cursor later offset raw content fail h = absurd h
own_element s tomb_kind cursor later offset raw content fail h = absurd h
own_element s meta_kind cursor later offset raw content fail h = absurd h
own_element s protection_kind cursor later offset raw content fail h = absurd h
own_element s icons_kind cursor later offset raw content fail h = absurd h
own_element s icon_kind cursor later offset raw content fail h = absurd h
own_element s binaries_kind cursor later offset raw content fail h = absurd h
own_element s history_kind cursor later offset raw content fail h = absurd h
own_element s field_kind cursor later offset raw content fail h = absurd h
own_element s attachment_kind cursor later offset raw content fail h = absurd h
own_element s auto_type_kind cursor later offset raw content fail h = absurd h
own_element s association_kind cursor later offset raw content fail h = absurd h
own_element s times_kind cursor later offset raw content fail h = absurd h
own_element s items_kind cursor later offset raw content fail h = absurd h
own_element s item_kind cursor later offset raw content fail h = absurd h
own_element s unknown_kind cursor later offset raw content fail h = absurd h

mutual
  of_element : (s : Setting) (kind : Kind) (cursor : Cursor) (e : Element) (fail : DocFail) → HasFault s kind cursor e fail → IsOfElement fail
  of_element s kind cursor (element offset name raw content) fail (inl h) = of_content s kind false cursor content fail h
  of_element s kind cursor (element offset name raw content) fail (inr (inl h)) = subst IsOfElement (sym h.0) tt
  of_element s kind cursor (element offset name raw content) fail (inr (inr h)) = own_element s kind cursor (past_children s.form kind cursor content) offset raw content fail h

  of_content : (s : Setting) (kind : Kind) (there : Bool) (cursor : Cursor) (content : Content) (fail : DocFail) → HasFaultIn s kind there cursor content fail → IsOfElement fail
  of_content s kind there cursor (last text) fail h = absurd h
  of_content s kind there cursor (also text e more) fail (inl h) = of_element s _ cursor e fail h
  of_content s kind there cursor (also text e more) fail (inr (inl h)) = subst IsOfElement (sym h.0) tt
  of_content s kind there cursor (also text e more) fail (inr (inr h)) = of_content s kind _ _ more fail h
  of_content s kind there cursor (cut text answer) fail h = absurd h

as_cause : (s : Setting) (given : List (List ℕ × Bool)) (text : List ℕ) (fail : DocFail) → IsOfElement fail
    → HasFaultIn s text_kind false texts.start (elements_in text) fail → DocumentCause s given text fail
as_cause s given text (BadValue offset) is h = h
as_cause s given text (Compressed offset) is h = h
as_cause s given text (TooDeep offset) is h = h
as_cause s given text (TooMany n) is h = h
as_cause s given text (NilId offset) is h = h
as_cause s given text (MissingElement Uuid offset) is h = h
as_cause s given text (MissingElement KeePassFile offset) is h = absurd is
as_cause s given text (MissingElement Root offset) is h = absurd is
as_cause s given text (MissingElement Group offset) is h = absurd is
as_cause s given text (Form offset) is h = absurd is
as_cause s given text (Depth offset) is h = absurd is
as_cause s given text (DuplicateId u) is h = absurd is
as_cause s given text (BinaryRef number) is h = absurd is
as_cause s given text NoMemory is h = absurd is

-- ---- what is read to its end

-- a step that is refused has a cause, and one that is not is of a text without a cut
cause_in : {X : Type 0} (first : Option Answer) (Cause : DocFail → Type 0) (So : X → Type 0) (r : Result X DocFail) → Answering first Cause So r
    → (fail : DocFail) → r ≡ Err fail → Cause fail ⊎ IsCutBy first fail
cause_in first Cause So (Ok x) h fail e = cc e
cause_in first Cause So (Err f) h fail e = subst (λ (g : DocFail). Cause g ⊎ IsCutBy first g) (same_fail f fail e) h

uncut_in : {X : Type 0} (first : Option Answer) (Cause : DocFail → Type 0) (So : X → Type 0) (r : Result X DocFail) → Answering first Cause So r
    → (x : X) → r ≡ Ok x → first ≡ None
uncut_in first Cause So (Ok y) h x e = h.0
uncut_in first Cause So (Err f) h x e = cc e

fact_in : {X : Type 0} (So : X → Type 0) (r : Result X DocFail) → IfOk r So → (x : X) → r ≡ Ok x → So x
fact_in So r h x e = subst (λ (t : Result _ DocFail). IfOk t So) e h

-- answers that end once and refuse nothing end well
well_ended : (list : List Answer) → EndsOnce list → refusal_of list ≡ None → finishes list ≡ true
well_ended [] once none = absurd once
well_ended (start p n r ∷ more) once none = well_ended more once none
well_ended (words p r ∷ more) once none = well_ended more once none
well_ended (stop p ∷ more) once none = well_ended more once none
well_ended (finish ∷ more) once none = refl
well_ended (form n ∷ more) once none = absurd (cc none)
well_ended (depth n ∷ more) once none = absurd (cc none)

-- a text that is not refused holds one element
one_element : (text : List ℕ) → refusal_of (answers text) ≡ None → (e : Element) × (elements_in text ≡ also [] e (last []))
one_element text none =
    let ended = finished_texts text (well_ended (answers text) (verdicts text) none) in
    (element_at _ ended.0.root, elements_told text ended.0 ended.1 ended.2)

-- ---- what `Root` and `KeePassFile` lack

-- what an element holds
abbrev held_in : Element → Content
held_in (element offset name raw content) = content

cut_if : {X : Type 0} (So : X → Type 0) (a : Answer) → IfOk (markup_refusal a) So
cut_if So (form n) = tt
cut_if So (depth n) = tt
cut_if So (start p n r) = tt
cut_if So (words p r) = tt
cut_if So (stop p) = tt
cut_if So finish = tt

if_more : {X : Type 0} {So Then : X → Type 0} (r : Result X DocFail) → IfOk r So → ((x : X) → So x → Then x) → IfOk r Then
if_more (Ok x) h f = f x h
if_more (Err fail) h f = tt

-- a `Root` without a root group has none among its children
abbrev LacksTree : Content → RootParts → Type 0
LacksTree content r = r.tree ≡ None → HasNone (codes "Group") content

trees_said : (s : Setting) (content : Content) (p : RootParts) (cursor : Cursor)
    → IfOk (all_children (by_name s (root_rows s)) content p cursor) (λ x. x.0.tree ≡ None → (p.tree ≡ None) × HasNone (codes "Group") content)
trees_said s (last text) p cursor = λ none. (none, tt)
trees_said s (also text e more) p cursor =
    then_if (λ x. x.0.tree ≡ None → (p.tree ≡ None) × (name_of e ≢ codes "Group")) (λ x. x.0.tree ≡ None → (p.tree ≡ None) × ((name_of e ≢ codes "Group") × HasNone (codes "Group") more))
    (by_name s (root_rows s) p e cursor) (λ x. all_children (by_name s (root_rows s)) more x.0 x.1) child
    (λ x f. if_more (all_children (by_name s (root_rows s)) more x.0 x.1) (trees_said s more x.0 x.1) (λ y g none. let h = g none in let k = f h.0 in (k.0, (k.1, h.1))))
  where
    with_tree : (r : Result (ReadTree × Cursor) DocFail) → IfOk {T = RootParts × Cursor} (r >>= λ x. Ok (record p { tree = Some x.0 }, x.1)) (λ x. x.0.tree ≡ None → (p.tree ≡ None) × (name_of e ≢ codes "Group"))
    with_tree (Ok x) = λ none. cc none
    with_tree (Err fail) = tt

    child : IfOk (by_name s (root_rows s) p e cursor) (λ x. x.0.tree ≡ None → (p.tree ≡ None) × (name_of e ≢ codes "Group"))
    child =
        if_of_two (λ x. x.0.tree ≡ None → (p.tree ≡ None) × (name_of e ≢ codes "Group")) (bytes_eq (name_of e) (codes "Group")) (root_group s p e cursor) (by_name s (tail_rows s) p e cursor)
        (λ is. with_tree (group s 127 (not (is_some p.tree)) e cursor))
        (λ is. if_more {X = RootParts × Cursor} {So = λ x. x.0.tree ≡ p.tree} {Then = λ x. x.0.tree ≡ None → (p.tree ≡ None) × (name_of e ≢ codes "Group")} (by_name s (tail_rows s) p e cursor)
        (names_keep (λ (q : RootParts). q.tree) s (tail_rows s) (container_keeps (λ (q : RootParts). q.tree) s (λ q v. record q { tombs = v }) (λ q v. refl) (tombs_rows s) [] & tt) p e cursor)
        (λ x same none. (sym same ∙ none, name_is_not e (codes "Group") is)))
trees_said s (cut text answer) p cursor = cut_if (λ x. x.0.tree ≡ None → (p.tree ≡ None) × HasNone (codes "Group") (cut text answer)) answer

root_said : (s : Setting) (p : FileParts) (e : Element) (cursor : Cursor)
    → IfOk (root s p e cursor) (λ x. (r : RootParts) × (x.0.root ≡ Some r) × LacksTree (held_in e) r)
root_said s p (element offset name raw content) cursor =
    then_if (λ x. LacksTree content x.0) (λ x. (r : RootParts) × (x.0.root ≡ Some r) × LacksTree content r)
    (children_and_end s (by_name s (root_rows s)) offset raw [] content no_root cursor) _
    (then_if (λ x. LacksTree content x.0) (λ x. LacksTree content x.0) (all_children (by_name s (root_rows s)) content no_root cursor) _
    (if_more (all_children (by_name s (root_rows s)) content no_root cursor) (trees_said s content no_root cursor) (λ x f none. (f none).1))
    (λ x f. at_end x.0 f (text_at_end s offset raw (own_text content) x.1)))
    (λ x f. if_of_two (λ y. (r : RootParts) × (y.0.root ≡ Some r) × LacksTree content r) (is_some p.root) (Err (BadValue offset)) (Ok (record p { root = Some x.0 }, x.1))
    (λ yes. tt) (λ fresh. (x.0, refl, f)))
  where
    at_end : (q : RootParts) → LacksTree content q → (r : Result (ElementText × Cursor) DocFail) → IfOk {T = RootParts × Cursor} (r >>= λ y. Ok (q, y.1)) (λ x. LacksTree content x.0)
    at_end q f (Ok y) = f
    at_end q f (Err fail) = tt

-- what is known of `Root` after some children: what was known, or what the last one says
abbrev RootOf : Content → Option RootParts → Option RootParts → Type 0
RootOf content old now = ((now ≡ old) × HasNone (codes "Root") content)
    ⊎ ((r : RootParts) × (now ≡ Some r) × ((offset : ℕ) × (raw : List ℕ) × (held : Content) × IsChild (element offset (codes "Root") raw held) content × LacksTree held r))

abbrev ChildRoot : Element → Option RootParts → Option RootParts → Type 0
ChildRoot e old now = ((now ≡ old) × (name_of e ≢ codes "Root")) ⊎ ((name_of e ≡ codes "Root") × ((r : RootParts) × (now ≡ Some r) × LacksTree (held_in e) r))

roots_also : (text : List ℕ) (e : Element) (more : Content) (a b c : Option RootParts) → ChildRoot e a b → RootOf more b c → RootOf (also text e more) a c
roots_also text e more a b c (inl h) (inl k) = inl (k.0 ∙ h.0, (h.1, k.1))
roots_also text e more a b c (inl h) (inr k) = inr (k.0, k.1, (k.2.0, k.2.1, k.2.2, inr k.2.3, k.2.4))
roots_also text e more a b c (inr h) (inr k) = inr (k.0, k.1, (k.2.0, k.2.1, k.2.2, inr k.2.3, k.2.4))
roots_also text (element offset name raw held) more a b c (inr h) (inl k) =
    inr (h.1.0, k.0 ∙ h.1.1, (offset, raw, held, inl (ap (λ (n : List ℕ). element offset n raw held) h.0), h.1.2))

roots_said : (s : Setting) (content : Content) (p : FileParts) (cursor : Cursor)
    → IfOk (all_children (by_name s (file_rows s)) content p cursor) (λ x. RootOf content p.root x.0.root)
roots_said s (last text) p cursor = inl (refl, tt)
roots_said s (also text e more) p cursor =
    then_if (λ x. ChildRoot e p.root x.0.root) (λ x. RootOf (also text e more) p.root x.0.root)
    (by_name s (file_rows s) p e cursor) (λ x. all_children (by_name s (file_rows s)) more x.0 x.1) child
    (λ x f. if_more (all_children (by_name s (file_rows s)) more x.0 x.1) (roots_said s more x.0 x.1) (λ y g. roots_also text e more p.root x.0.root y.0.root f g))
  where
    So : FileParts × Cursor → Type 0
    So x = ChildRoot e p.root x.0.root

    meta_root : name_of e ≡ codes "Meta" → name_of e ≢ codes "Root"
    meta_root is same = absurd (apart (bytes_eq (name_of e) (codes "Root")) ((bytes_eq-Decides (name_of e) (codes "Root")).1 same) (ap (λ (n : List ℕ). bytes_eq n (codes "Root")) is))

    child : IfOk (by_name s (file_rows s) p e cursor) (λ x. ChildRoot e p.root x.0.root)
    child =
        if_of_two (λ x. ChildRoot e p.root x.0.root) (bytes_eq (name_of e) (codes "Meta")) (metas s (λ q v. record q { meta = v }) p e cursor) (cond (bytes_eq (name_of e) (codes "Root")) (root s p e cursor) (unknown_child s p e cursor))
        (λ is. if_more (metas s (λ q v. record q { meta = v }) p e cursor) (container_keeps (λ (q : FileParts). q.root) s (λ q v. record q { meta = v }) (λ q v. refl) (meta_rows s) no_meta p e cursor)
        (λ x same. inl (same, meta_root (name_is e (codes "Meta") is))))
        (λ not. if_of_two (λ x. ChildRoot e p.root x.0.root) (bytes_eq (name_of e) (codes "Root")) (root s p e cursor) (unknown_child s p e cursor)
        (λ is. if_more (root s p e cursor) (root_said s p e cursor) (λ x f. inr (name_is e (codes "Root") is, f)))
        (λ other. if_more (unknown_child s p e cursor) (names_keep (λ (q : FileParts). q.root) s [] tt p e cursor) (λ x same. inl (same, name_is_not e (codes "Root") other))))
roots_said s (cut text answer) p cursor = cut_if (λ x. RootOf (cut text answer) p.root x.0.root) answer

-- what is known of the whole text, by its outermost element
abbrev FileOf : Element → Option FileParts → Type 0
FileOf e None = name_of e ≢ codes "KeePassFile"
FileOf e (Some file) = (name_of e ≡ codes "KeePassFile") × RootOf (held_in e) None file.root

file_said : (s : Setting) (e : Element) (cursor : Cursor) → IfOk (by_name s (document_rows s) None e cursor) (λ x. FileOf e x.0)
file_said s e cursor =
    if_of_two (λ x. FileOf e x.0) (bytes_eq (name_of e) (codes "KeePassFile")) (container s (file_rows s) no_file_parts (λ p v. Some v) None e cursor) (unknown_child s None e cursor)
    (λ is. in_file e (name_is e (codes "KeePassFile") is))
    (λ other. if_more (unknown_child s None e cursor) (names_keep (λ (q : Option FileParts). q) s [] tt None e cursor) (λ x same. subst (FileOf e) (sym same) (name_is_not e (codes "KeePassFile") other)))
  where
    in_file : (f : Element) → name_of f ≡ codes "KeePassFile" → IfOk (container s (file_rows s) no_file_parts (λ p v. Some v) None f cursor) (λ x. FileOf f x.0)
    in_file (element offset name raw content) is =
        then_if (λ x. RootOf content None x.0.root) (λ x. FileOf (element offset name raw content) x.0) (children_and_end s (by_name s (file_rows s)) offset raw [] content no_file_parts cursor) (λ x. Ok (Some x.0, x.1))
        (then_if (λ x. RootOf content None x.0.root) (λ x. RootOf content None x.0.root) (all_children (by_name s (file_rows s)) content no_file_parts cursor) _
        (roots_said s content no_file_parts cursor) (λ x f. at_end x.0 f (text_at_end s offset raw (own_text content) x.1)))
        (λ x f. (is, f))
      where
        at_end : (q : FileParts) → RootOf content None q.root → (r : Result (ElementText × Cursor) DocFail) → IfOk {T = FileParts × Cursor} (r >>= λ y. Ok (q, y.1)) (λ x. RootOf content None x.0.root)
        at_end q f (Ok y) = f
        at_end q f (Err fail) = tt

some_or : {A : Type 0} → A → Option A → A
some_or x None = x
some_or x (Some y) = y

is_file : (text : List ℕ) (e : Element) → elements_in text ≡ also [] e (last []) → name_of e ≡ codes "KeePassFile" → IsFile text (held_in e)
is_file text (element offset name raw content) is named =
    record { offset = offset; raw = raw; outermost = is ∙ ap (λ (n : List ℕ). also [] (element offset n raw content) (last [])) named }

none_some : {A B : Type 0} (x : A) (o : Option A) → o ≡ None → o ≡ Some x → B
none_some x o none some = cc (sym none ∙ some)

lacks_root : (text : List ℕ) (e : Element) → elements_in text ≡ also [] e (last []) → (file : FileParts) → FileOf e (Some file) → file.root ≡ None → LacksRoot text
lacks_root text e is file (f) none = elim f.1 [
  | inl a ↦ record { content = held_in e; is_file = is_file text e is f.0; none = a.1 }
  | inr a ↦ none_some a.0 file.root none a.1
]

lacks_group : (text : List ℕ) (e : Element) → elements_in text ≡ also [] e (last []) → (file : FileParts) → FileOf e (Some file) → (r : RootParts) → file.root ≡ Some r → r.tree ≡ None → LacksGroup text
lacks_group text e is file f r is_root none = elim f.1 [
  | inl a ↦ none_some r file.root a.0 is_root
  | inr a ↦ record {
    content = held_in e;
    is_file = is_file text e is f.0;
    offset = a.2.0;
    raw = a.2.1;
    held = a.2.2;
    is_root = a.2.3;
    none = a.2.4 (ap (λ (o : Option RootParts). tree_of o) (sym a.1 ∙ is_root) ∙ none);
  }
]
  where
    tree_of : Option RootParts → Option ReadTree
    tree_of None = None
    tree_of (Some q) = q.tree

-- ---- the whole text

module _ (s : Setting) (given : List (List ℕ × Bool)) (text : List ℕ) (fail : DocFail) where
  abbrev Cause : DocFail → Type 0
  Cause f = DocumentCause s given text f

  abbrev FaultIn : DocFail → Type 0
  FaultIn f = HasFaultIn s text_kind false texts.start (elements_in text) f

  abbrev IsPast : Option FileParts × Cursor → Type 0
  IsPast x = (x.1 ≡ past_children s.form text_kind texts.start (elements_in text)) × Unit {0}

  of_this : (f : DocFail) → f ≡ fail → Cause f → Cause fail
  of_this f same c = subst Cause same c

  at_end : Answering (refusal_of (answers text)) FaultIn IsPast (parts_at_end s text)
  at_end = subst (λ (o : Option Answer). Answering o FaultIn IsPast (parts_at_end s text)) (cuts_told text)
      (rows_told s text_kind (document_rows s) (document_rows_told s) false (elements_in text) None texts.start)

  of_answer : (answer : Answer) → refusal_of (answers text) ≡ Some answer → refusal_by answer ≡ fail → Cause fail
  of_answer answer is same = of_fault answer (refusals text answer is) same
    where
      of_fault : (a : Answer) → IsFault text a → refusal_by a ≡ fail → Cause fail
      of_fault (form n) fault e = of_this (Form n) e fault
      of_fault (depth n) fault e = of_this (Depth n) e fault
      of_fault (start p n r) fault e = absurd fault
      of_fault (words p r) fault e = absurd fault
      of_fault (stop p) fault e = absurd fault
      of_fault finish fault e = absurd fault

  before_end : parts_at_end s text ≡ Err fail → Cause fail
  before_end h = elim (cause_in (refusal_of (answers text)) FaultIn IsPast (parts_at_end s text) at_end fail h) [
    | inl a ↦ as_cause s given text fail (of_content s text_kind false texts.start (elements_in text) fail a) a
    | inr a ↦ of_answer a.0 a.1 a.2
  ]

  module _ (x : Option FileParts × Cursor) (read : parts_at_end s text ≡ Ok x) where
    outermost : (e : Element) × (elements_in text ≡ also [] e (last []))
    outermost = one_element text (uncut_in (refusal_of (answers text)) FaultIn IsPast (parts_at_end s text) at_end x read)

    abbrev outer : Element
    outer = outermost.0

    only_child : (r : Result (Option FileParts × Cursor) DocFail) → IfOk r (λ y. FileOf outer y.0) → IfOk {T = Option FileParts × Cursor} (r >>= λ y. Ok (y.0, y.1)) (λ y. FileOf outer y.0)
    only_child (Ok y) f = f
    only_child (Err e) f = tt

    file_is : FileOf outer x.0
    file_is =
        fact_in (λ y. FileOf outer y.0) (all_children (by_name s (document_rows s)) (also [] outer (last [])) None texts.start)
        (only_child (by_name s (document_rows s) None outer texts.start) (file_said s outer texts.start)) x
        (ap (λ (c : Content). all_children (by_name s (document_rows s)) c None texts.start) (sym outermost.1) ∙ read)

    module _ (file : FileParts) (is_some_file : x.0 ≡ Some file) where
      file_of : FileOf outer (Some file)
      file_of = subst (FileOf outer) is_some_file file_is

      in_root : (o : Option RootParts) → file.root ≡ o → required_part Root o ≡ Err fail → Cause fail
      in_root None is h = of_this (MissingElement Root 0) (same_fail (MissingElement Root 0) fail h) (refl, lacks_root text outer outermost.1 file file_of is)
      in_root (Some r) is h = cc h

      module _ (r : RootParts) (is_root : file.root ≡ Some r) where
        in_group : (o : Option ReadTree) → r.tree ≡ o → required_part Group o ≡ Err fail → Cause fail
        in_group None is h = of_this (MissingElement Group 0) (same_fail (MissingElement Group 0) fail h) (refl, lacks_group text outer outermost.1 file file_of r is_root is)
        in_group (Some t) is h = cc h

        module _ (tree : ReadTree) (is_tree : r.tree ≡ Some tree) where
          says_tree : SaysTree s text file tree
          says_tree = record { says = ap (λ (q : Result (Option FileParts × Cursor) DocFail). q >>= λ y. Ok y.0) read ∙ ap Ok is_some_file; root = r; root_is = is_root; tree_is = is_tree }

          abbrev pool : List ReadBinary
          pool = pool_from s.form given file.meta.binaries

          in_ids : (o : Option NodeId) → least_duplicate (ids_in pool tree) ≡ o → refuse_duplicate o ≡ Err fail → Cause fail
          in_ids None is h = cc h
          in_ids (Some u) is h = of_this (DuplicateId u) (same_fail (DuplicateId u) fail h)
              (record { file = file; tree = tree; says_tree = says_tree; twice = twice (ids_in pool tree) u is; least = least_is (ids_in pool tree) u is })

          in_references : (o : Option Missing) → first_missing (missing_in pool tree) ≡ o → refuse_missing o ≡ Err fail → Cause fail
          in_references None is h = cc h
          in_references (Some m) is h =
              let first = first_of (missing_in pool tree) m is in
              let found = in_tree pool tree m first.0 in
              of_this (BinaryRef m.1) (same_fail (BinaryRef m.1) fail h) (record {
                file = file;
                tree = tree;
                says_tree = says_tree;
                offset = m.0;
                refers = found.0;
                no_binary = (none_found m.1 None pool found.1).1;
                first = λ o n refers lacks. first.1 (o, n) (from_tree pool tree o n refers (not_found n None pool refl lacks));
              })

          in_resolved : resolved_with s.form pool file.meta tree r.tombs ≡ Err fail → Cause fail
          in_resolved h = elim (refused_at (refuse_duplicate (least_duplicate (ids_in pool tree))) _ fail h) [
            | inl a ↦ in_ids (least_duplicate (ids_in pool tree)) refl a
            | inr a ↦ elim (refused_at (refuse_missing (first_missing (missing_in pool tree))) _ fail a.1.1) [
              | inl b ↦ in_references (first_missing (missing_in pool tree)) refl b
              | inr b ↦ cc b.1.1
            ]
          ]

    part_ok : {A : Type 0} (which : RequiredElement) (o : Option A) (y : A) → required_part which o ≡ Ok y → o ≡ Some y
    part_ok which None y h = cc h
    part_ok which (Some z) y h = cc h

    no_file : (o : Option FileParts) → x.0 ≡ o → required_part KeePassFile o ≡ Err fail → Cause fail
    no_file None is h = of_this (MissingElement KeePassFile 0) (same_fail (MissingElement KeePassFile 0) fail h)
        (refl, subst (HasNone (codes "KeePassFile")) (sym outermost.1) (subst (FileOf outer) is file_is, tt))
    no_file (Some file) is h = cc h

    after_end : resolved_document s.form given x.0 ≡ Err fail → Cause fail
    after_end h = elim (refused_at (required_part KeePassFile x.0) _ fail h) [
      | inl a ↦ no_file x.0 refl a
      | inr a ↦
          let file_ok = part_ok KeePassFile x.0 a.0 a.1.0 in
          elim (refused_at (required_part Root a.0.root) _ fail a.1.1) [
            | inl b ↦ in_root a.0 file_ok a.0.root refl b
            | inr b ↦
                let root_ok = part_ok Root a.0.root b.0 b.1.0 in
                elim (refused_at (required_part Group b.0.tree) _ fail b.1.1) [
                  | inl c ↦ in_group a.0 file_ok b.0 root_ok b.0.tree refl c
                  | inr c ↦ in_resolved a.0 file_ok b.0 root_ok c.0 (part_ok Group b.0.tree c.0 c.1.0) c.1.1
                ]
          ]
    ]

  in_document : document s given text ≡ Err fail → Cause fail
  in_document h = elim (refused_at (parts_in s text) _ fail h) [
    | inl a ↦ elim (refused_at (parts_at_end s text) (λ x. Ok x.0) fail a) [
      | inl b ↦ before_end b
      | inr b ↦ cc b.1.1
    ]
    | inr a ↦
        let e = ok_of (parts_at_end s text) a.0 a.1.0 in
        after_end e.0 e.1.0 (subst (λ (o : Option FileParts). resolved_document s.form given o ≡ Err fail) (sym e.1.1) a.1.1)
  ]
    where
      ok_of : (r : Result (Option FileParts × Cursor) DocFail) (p : Option FileParts) → (r >>= λ x. Ok x.0) ≡ Ok p → (x : Option FileParts × Cursor) × ((r ≡ Ok x) × (x.0 ≡ p))
      ok_of (Ok x) p e = (x, (refl, ap (ok_or p) e))
        where
          ok_or : Option FileParts → Result (Option FileParts) DocFail → Option FileParts
          ok_or q (Ok y) = y
          ok_or q (Err f) = q
      ok_of (Err f) p e = cc e

pub document_refusals_have_causes : DocumentRefusalsHaveCauses
document_refusals_have_causes s given text fail h = in_document s given text fail h
