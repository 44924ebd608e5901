-- What a tree keeps when the bytes of its attachments are resolved.
use Rattle.std.proofs.Common.{◌≡◌, ◌≤◌, ◌<◌, ◌-◌, ℕ, suc, Bool, true, false, not, nat_lt, cond, ◌&&◌, ◌||◌, List, [], ◌∷◌, ◌++◌, Option, Some, None, map, refl, sym, ap, ◌∙◌, arith}
use Rattle.std.proofs.lemmas.Bool.{ltb-true}
use Rattle.std.proofs.lemmas.List.Folds.{list_all-append, list_any-append}
use Rattle.std.specs.List.{list_all, list_any}
use Rattle.std.specs.Ordering.{is_lt}
use Rattle.std.specs.Str.{bytes_eq, is_utf8}
use Rattle.vault_model.specs.Bare.{BareAttachment, BareContent, BareField}
use Rattle.vault_model.specs.Db.{NodeId, nil_id}
use Rattle.vault_model.specs.Join.{is_id}
use Rattle.vault_model.specs.Orders.{bytes_cmp}
use Rattle.vault_model.specs.Proper.{rises, is_proper_content, is_proper_group_content, is_text_content, is_text_field, is_text_item, is_text_typing}
use Rattle.vault_model.specs.Shape.{BareVersion, EntryRecord, GroupRecord}
use Rattle.vault_model.specs.SeenNodes.{are_entries_proper, are_groups_proper}
use Rattle.vault_model.specs.Tree.{Tree, LEVELS, are_distinct, entry_rows, entry_rows_all, group_rows, group_rows_all, height, height_all, is_elsewhere, is_proper_entry, node_ids, node_ids_all}
use Rattle.vault_model.specs.declared.contents.Item.{Item}
use Rattle.vault_model.proofs.Tests.{and_true, and_both, not_true}
use Rattle.doc_forms.specs.Attachments.{binary_in, resolved_attachment, resolved_entry, resolved_tree, resolved_trees, resolved_version, with_bytes}
use Rattle.doc_forms.specs.Ids.{least_duplicate, lesser_id}
use Rattle.doc_forms.specs.Entries.{ReadAttachment, ReadEntry, ReadSource, ReadVersion, own_bytes, pool_number}
use Rattle.doc_forms.specs.Groups.{ReadTree, ReadTrees, beside, node, none}
use Rattle.doc_forms.specs.KeptParts.{are_kept_trees, is_kept_entry, is_kept_tree, is_kept_version}
use Rattle.doc_forms.specs.Metas.{ReadBinary}
use Rattle.doc_resolving.proofs.IdSets.{is_bytes, either_way, among_bytes}

-- ---- ids

duplicate_none : (u : NodeId) (us : List NodeId) (b : Bool) → cond b (Some (lesser_id u (least_duplicate us))) (least_duplicate us) ≡ None → (b ≡ false) × (least_duplicate us ≡ None)
duplicate_none u us true e = cc e
duplicate_none u us false e = (refl, e)

-- where there is no duplicate they are distinct
pub distinct_ids : (us : List NodeId) → least_duplicate us ≡ None → are_distinct us ≡ true
distinct_ids [] e = refl
distinct_ids (u ∷ us) e =
    let both = duplicate_none u us (list_any (bytes_eq u) us) e in
    and_both (not (list_any (is_id u) us)) (are_distinct us) (ap not (among_bytes u us ∙ both.0)) (distinct_ids us both.1)

-- ---- what a kept node is

record KeptNode (n : ℕ) (u : NodeId) (r : GroupRecord) (es : List ReadEntry) (ts : ReadTrees) : Type 0 where
  no_nil : bytes_eq u nil_id ≡ false
  content : is_proper_group_content r.state.content ≡ true
  entries : list_all is_kept_entry es ≡ true
  below : are_kept_trees n ts ≡ true

kept_node : (n : ℕ) (u : NodeId) (r : GroupRecord) (es : List ReadEntry) (ts : ReadTrees) → is_kept_tree n (node u r es ts) ≡ true → KeptNode n u r es ts
kept_node n u r es ts k =
    let id = not (bytes_eq u nil_id) in
    let content = is_proper_group_content r.state.content in
    let a = and_true (id && content && list_all is_kept_entry es) (are_kept_trees n ts) k in
    let b = and_true (id && content) (list_all is_kept_entry es) a.0 in
    let c = and_true id content b.0 in
    record { no_nil = not_true (bytes_eq u nil_id) c.0; content = c.1; entries = b.1; below = a.1 }

record KeptBeside (n : ℕ) (t : ReadTree) (ts : ReadTrees) : Type 0 where
  room : nat_lt 0 n ≡ true
  first : is_kept_tree (n - 1) t ≡ true
  others : are_kept_trees n ts ≡ true

kept_beside : (n : ℕ) (t : ReadTree) (ts : ReadTrees) → are_kept_trees n (beside t ts) ≡ true → KeptBeside n t ts
kept_beside n t ts k =
    let a = and_true (nat_lt 0 n && is_kept_tree (n - 1) t) (are_kept_trees n ts) k in
    let b = and_true (nat_lt 0 n) (is_kept_tree (n - 1) t) a.0 in
    record { room = b.0; first = b.1; others = a.1 }

record KeptEntry (e : ReadEntry) : Type 0 where
  no_nil : bytes_eq e.id nil_id ≡ false
  current : is_kept_version e.current ≡ true
  history : list_all is_kept_version e.history ≡ true

kept_entry : (e : ReadEntry) → is_kept_entry e ≡ true → KeptEntry e
kept_entry e k =
    let a = and_true (not (bytes_eq e.id nil_id) && is_kept_version e.current) (list_all is_kept_version e.history) k in
    let b = and_true (not (bytes_eq e.id nil_id)) (is_kept_version e.current) a.0 in
    record { no_nil = not_true (bytes_eq e.id nil_id) b.0; current = b.1; history = a.1 }

-- ---- the nil id

neither : (a b : Bool) → a ≡ false → b ≡ false → (a || b) ≡ false
neither a b p q = ap (λ x. x || b) p ∙ q

not_nil : (u : NodeId) → bytes_eq u nil_id ≡ false → is_id nil_id u ≡ false
not_nil u e = either_way nil_id u ∙ is_bytes u nil_id ∙ e

none_of_both : (xs ys : List NodeId) → list_any (is_id nil_id) xs ≡ false → list_any (is_id nil_id) ys ≡ false → list_any (is_id nil_id) (xs ++ ys) ≡ false
none_of_both xs ys p q = list_any-append (is_id nil_id) xs ys ∙ neither (list_any (is_id nil_id) xs) (list_any (is_id nil_id) ys) p q

all_of_both : {A : Type 0} (test : A → Bool) (xs ys : List A) → list_all test xs ≡ true → list_all test ys ≡ true → list_all test (xs ++ ys) ≡ true
all_of_both test xs ys p q = list_all-append test xs ys ∙ and_both (list_all test xs) (list_all test ys) p q

-- ---- versions

second_of : (a b c d e f g h : Bool) → (a && b && c && d && e && f && g && h) ≡ true → b ≡ true
second_of a b c d e f g h k =
    let k7 = and_true (a && b && c && d && e && f && g) h k in
    let k6 = and_true (a && b && c && d && e && f) g k7.0 in
    let k5 = and_true (a && b && c && d && e) f k6.0 in
    let k4 = and_true (a && b && c && d) e k5.0 in
    let k3 = and_true (a && b && c) d k4.0 in
    let k2 = and_true (a && b) c k3.0 in
    (and_true a b k2.0).1

other_second : (a b c d e f g h other : Bool) → (a && b && c && d && e && f && g && h) ≡ true → other ≡ true → (a && other && c && d && e && f && g && h) ≡ true
other_second a b c d e f g h other k is = ap (λ x. a && x && c && d && e && f && g && h) (is ∙ sym (second_of a b c d e f g h k)) ∙ k

other_parts : (a b c d second fourth : Bool) → (a && b && c && d) ≡ true → second ≡ true → (d ≡ true → fourth ≡ true) → (a && second && c && fourth) ≡ true
other_parts a b c d second fourth k is next =
    let k3 = and_true (a && b && c) d k in
    let k2 = and_true (a && b) c k3.0 in
    let k1 = and_true a b k2.0 in
    and_both (a && second && c) fourth (and_both (a && second) c (and_both a second k1.0 is) k2.1) (next k3.1)

-- texts with other attachments
text_still : (c : BareContent) (attachments : List BareAttachment) → is_text_content c ≡ true → list_all (λ (a : BareAttachment). is_utf8 a.name) attachments ≡ true
    → is_text_content (record c { attachments = attachments }) ≡ true
text_still c attachments k named =
    other_second (list_all is_text_field c.fields) (list_all (λ (a : BareAttachment). is_utf8 a.name) c.attachments) (is_utf8 c.tags) (is_utf8 c.fore) (is_utf8 c.back)
    (is_utf8 c.url_override) (is_text_typing c.auto_type) (list_all is_text_item c.items) (list_all (λ (a : BareAttachment). is_utf8 a.name) attachments) k named

-- a content with other attachments
proper_still : (c : BareContent) (attachments : List BareAttachment) → is_proper_content c ≡ true
    → rises (λ (a : BareAttachment). a.name) attachments ≡ true
    → list_all (λ (a : BareAttachment). is_utf8 a.name) attachments ≡ true
    → is_proper_content (record c { attachments = attachments }) ≡ true
unfolding is_proper_content
proper_still c attachments k up named =
    other_parts (rises (λ (f : BareField). f.key) c.fields) (rises (λ (a : BareAttachment). a.name) c.attachments) (rises (λ (i : Item). i.key) c.items) (is_text_content c)
    (rises (λ (a : BareAttachment). a.name) attachments) (is_text_content (record c { attachments = attachments })) k up (λ t. text_still c attachments t named)

resolved_name : (f : ReadAttachment) (s : ReadSource) (b : Option ReadBinary) → (with_bytes f s b).name ≡ f.name
resolved_name f (own_bytes bytes) b = refl
resolved_name f (pool_number offset n) None = refl
resolved_name f (pool_number offset n) (Some b) = refl

module _ (pool : List ReadBinary) where
  name_kept : (f : ReadAttachment) → (resolved_attachment pool f).name ≡ f.name
  name_kept f = resolved_name f f.source (binary_in pool f.source)

  names_kept : (test : List ℕ → Bool) (fs : List ReadAttachment) → list_all (λ (a : BareAttachment). test a.name) (map (resolved_attachment pool) fs) ≡ list_all (λ (f : ReadAttachment). test f.name) fs
  names_kept test [] = refl
  names_kept test (f ∷ fs) = λ i. test (name_kept f i) && names_kept test fs i

  names_rise : (fs : List ReadAttachment) → rises (λ (a : BareAttachment). a.name) (map (resolved_attachment pool) fs) ≡ rises (λ (f : ReadAttachment). f.name) fs
  names_rise [] = refl
  names_rise (f ∷ fs) =
      let first = names_kept (λ n. is_lt (bytes_cmp (resolved_attachment pool f).name n)) fs ∙ ap (λ n. list_all (λ (g : ReadAttachment). is_lt (bytes_cmp n g.name)) fs) (name_kept f) in
      λ i. first i && names_rise fs i

  proper_version : (v : ReadVersion) → is_kept_version v ≡ true → is_proper_content (resolved_version pool v).mark.content ≡ true
  proper_version v k =
      let up = rises (λ (f : ReadAttachment). f.name) v.attachments in
      let named = list_all (λ (f : ReadAttachment). is_utf8 f.name) v.attachments in
      let a = and_true (is_proper_content v.content && up) named k in
      let b = and_true (is_proper_content v.content) up a.0 in
      proper_still v.content (map (resolved_attachment pool) v.attachments) b.0 (names_rise v.attachments ∙ b.1) (names_kept is_utf8 v.attachments ∙ a.1)

  proper_versions : (vs : List ReadVersion) → list_all is_kept_version vs ≡ true → list_all (λ (v : BareVersion). is_proper_content v.mark.content) (map (resolved_version pool) vs) ≡ true
  proper_versions [] k = refl
  proper_versions (v ∷ vs) k =
      let both = and_true (is_kept_version v) (list_all is_kept_version vs) k in
      and_both (is_proper_content (resolved_version pool v).mark.content) (list_all (λ (v : BareVersion). is_proper_content v.mark.content) (map (resolved_version pool) vs))
      (proper_version v both.0) (proper_versions vs both.1)

  -- ---- entries

  no_entry_nil : (es : List ReadEntry) → list_all is_kept_entry es ≡ true
      → list_any (is_id nil_id) (map (λ (e : NodeId × EntryRecord). e.0) (map (resolved_entry pool) es)) ≡ false
  no_entry_nil [] k = refl
  no_entry_nil (e ∷ es) k =
      let both = and_true (is_kept_entry e) (list_all is_kept_entry es) k in
      neither (is_id nil_id e.id) (list_any (is_id nil_id) (map (λ (e : NodeId × EntryRecord). e.0) (map (resolved_entry pool) es)))
      (not_nil e.id (kept_entry e both.0).no_nil) (no_entry_nil es both.1)

  proper_entries : (es : List ReadEntry) → list_all is_kept_entry es ≡ true → list_all (λ (r : NodeId × EntryRecord). is_proper_entry r.1) (map (resolved_entry pool) es) ≡ true
  proper_entries [] k = refl
  proper_entries (e ∷ es) k =
      let both = and_true (is_kept_entry e) (list_all is_kept_entry es) k in
      let kept = kept_entry e both.0 in
      let test = λ (v : BareVersion). is_proper_content v.mark.content in
      and_both (is_proper_entry (resolved_entry pool e).1) (list_all (λ (r : NodeId × EntryRecord). is_proper_entry r.1) (map (resolved_entry pool) es))
      (and_both (test (resolved_version pool e.current)) (list_all test (map (resolved_version pool) e.history)) (proper_version e.current kept.current) (proper_versions e.history kept.history))
      (proper_entries es both.1)

  -- ---- trees

  mutual
    none_nil : (n : ℕ) (t : ReadTree) → is_kept_tree n t ≡ true → list_any (is_id nil_id) (node_ids (resolved_tree pool t)) ≡ false
    none_nil n (node u r es ts) k =
        let kept = kept_node n u r es ts k in
        let entries = map (λ (e : NodeId × EntryRecord). e.0) (map (resolved_entry pool) es) in
        neither (is_id nil_id u) (list_any (is_id nil_id) (entries ++ node_ids_all (resolved_trees pool ts))) (not_nil u kept.no_nil)
        (none_of_both entries (node_ids_all (resolved_trees pool ts)) (no_entry_nil es kept.entries) (none_nil_all n ts kept.below))

    none_nil_all : (n : ℕ) (ts : ReadTrees) → are_kept_trees n ts ≡ true → list_any (is_id nil_id) (node_ids_all (resolved_trees pool ts)) ≡ false
    none_nil_all n none k = refl
    none_nil_all n (beside t ts) k =
        let kept = kept_beside n t ts k in
        none_of_both (node_ids (resolved_tree pool t)) (node_ids_all (resolved_trees pool ts)) (none_nil (n - 1) t kept.first) (none_nil_all n ts kept.others)

  mutual
    levels_of : (n : ℕ) (t : ReadTree) → is_kept_tree n t ≡ true → height (resolved_tree pool t) ≤ suc n
    levels_of n (node u r es ts) k = let below = levels_below n ts (kept_node n u r es ts k).below in omega arith

    levels_below : (n : ℕ) (ts : ReadTrees) → are_kept_trees n ts ≡ true → height_all (resolved_trees pool ts) ≤ n
    levels_below n none k = omega arith
    levels_below n (beside t ts) k =
        let kept = kept_beside n t ts k in
        let room : 0 < n = ltb-true 0 n kept.room in
        let first = levels_of (n - 1) t kept.first in
        let others = levels_below n ts kept.others in
        omega arith

  mutual
    all_entries : (n : ℕ) (t : ReadTree) → is_kept_tree n t ≡ true → are_entries_proper (resolved_tree pool t) ≡ true
    all_entries n (node u r es ts) k =
        let kept = kept_node n u r es ts k in
        all_of_both (λ (r : NodeId × EntryRecord). is_proper_entry r.1) (map (resolved_entry pool) es) (entry_rows_all (resolved_trees pool ts))
        (proper_entries es kept.entries) (entries_below n ts kept.below)

    entries_below : (n : ℕ) (ts : ReadTrees) → are_kept_trees n ts ≡ true → list_all (λ (r : NodeId × EntryRecord). is_proper_entry r.1) (entry_rows_all (resolved_trees pool ts)) ≡ true
    entries_below n none k = refl
    entries_below n (beside t ts) k =
        let kept = kept_beside n t ts k in
        all_of_both (λ (r : NodeId × EntryRecord). is_proper_entry r.1) (entry_rows (resolved_tree pool t)) (entry_rows_all (resolved_trees pool ts))
        (all_entries (n - 1) t kept.first) (entries_below n ts kept.others)

  mutual
    all_groups : (n : ℕ) (t : ReadTree) → is_kept_tree n t ≡ true → are_groups_proper (resolved_tree pool t) ≡ true
    all_groups n (node u r es ts) k =
        let kept = kept_node n u r es ts k in
        and_both (is_proper_group_content r.state.content) (list_all (λ (r : NodeId × GroupRecord). is_proper_group_content r.1.state.content) (group_rows_all (resolved_trees pool ts)))
        kept.content (groups_below n ts kept.below)

    groups_below : (n : ℕ) (ts : ReadTrees) → are_kept_trees n ts ≡ true → list_all (λ (r : NodeId × GroupRecord). is_proper_group_content r.1.state.content) (group_rows_all (resolved_trees pool ts)) ≡ true
    groups_below n none k = refl
    groups_below n (beside t ts) k =
        let kept = kept_beside n t ts k in
        all_of_both (λ (r : NodeId × GroupRecord). is_proper_group_content r.1.state.content) (group_rows (resolved_tree pool t)) (group_rows_all (resolved_trees pool ts))
        (all_groups (n - 1) t kept.first) (groups_below n ts kept.others)

-- What a tree keeps whose root has at most so many levels below it.
pub record KeptTree (t : Tree) : Type 0 where
  pub no_nil : is_elsewhere t nil_id ≡ true
  pub levels : height t ≤ LEVELS
  pub entries : are_entries_proper t ≡ true
  pub groups : are_groups_proper t ≡ true

pub resolved_keeps : (pool : List ReadBinary) (t : ReadTree) → is_kept_tree 127 t ≡ true → KeptTree (resolved_tree pool t)
resolved_keeps pool t k = record {
  no_nil = ap not (none_nil pool 127 t k);
  levels = levels_of pool 127 t k;
  entries = all_entries pool 127 t k;
  groups = all_groups pool 127 t k;
}
