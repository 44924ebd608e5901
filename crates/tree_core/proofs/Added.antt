-- A document with one more entry is a document.
use Rattle.std.proofs.Common.{◌≡◌, ◌≤◌, ◌+◌, Bool, true, false, not, ◌&&◌, inl, inr, List, [], ◌∷◌, ◌++◌, Option, None, Some, MatchOption, MatchResult, Result, Ok, Err, subst, map, refl, sym, ap, ◌∙◌, arith}
use Rattle.std.specs.List.{list_all, list_any}
use Rattle.vault_model.specs.declared.nodes.Tombstone.{Tombstone}
use Rattle.vault_model.specs.Db.{NodeId, nil_id}
use Rattle.vault_model.specs.Join.{is_id}
use Rattle.vault_model.specs.Proper.{is_proper_group_content}
use Rattle.vault_model.specs.Shape.{EntryRecord, GroupRecord}
use Rattle.vault_model.specs.Tree.{BareDoc, IsDoc, Tree, entry_rows, entry_rows_all, group_rows, height, id_of, is_elsewhere, is_proper_entry, node, node_ids, node_ids_all}
use Rattle.vault_model.proofs.Ids.{same_id}
use Rattle.vault_model.proofs.Tests.{and_both, and_true, apart, decide, is_false, map_append, not_true}
use Rattle.tree_core.specs.Changes.{changed_at, group_with, has_group, is_free, with_entry}
use Rattle.tree_core.proofs.Around.{RowsChange, all_change, entries_rows, found_group, found_id, groups_rows, ids_rows, no_higher, occurs_change, rows_change}
use Rattle.tree_core.proofs.Changed.{changed_by}
use Rattle.tree_core.proofs.Counted.{all_append, all_both, all_front, distinct, elsewhere_occurs, occurs, occurs-append, occurs_elsewhere, once, one_if}

-- ---- a group with one more entry

pub same_group : (e : NodeId × EntryRecord) (t : Tree) → id_of (with_entry e t) ≡ id_of t
same_group e (node v r es ts) = refl

one_more : (x : NodeId) (e : NodeId × EntryRecord) (t : Tree) → occurs x (node_ids (with_entry e t)) ≡ occurs x (node_ids t) + one_if (is_id x e.0)
one_more x e (node v r es ts) =
    let ids = λ (xs : List (NodeId × EntryRecord)). map (λ (y : NodeId × EntryRecord). y.0) xs in
    let now = ap (λ xs. occurs x (xs ++ node_ids_all ts)) (map_append (λ (y : NodeId × EntryRecord). y.0) es (e ∷ [])) in
    let now2 = occurs-append x (ids es ++ e.0 ∷ []) (node_ids_all ts) in
    let now3 = occurs-append x (ids es) (e.0 ∷ []) in
    let was = occurs-append x (ids es) (node_ids_all ts) in
    omega (arith, now, now2, now3, was)

all_entries : (test : NodeId × EntryRecord → Bool) (e : NodeId × EntryRecord) (t : Tree) → test e ≡ true → list_all test (entry_rows t) ≡ true → list_all test (entry_rows (with_entry e t)) ≡ true
all_entries test e (node v r es ts) here all =
    let parts = all_front test es (entry_rows_all ts) all in
    all_append test (es ++ e ∷ []) (entry_rows_all ts) (all_append test es (e ∷ []) parts.0 (and_both (test e) true here refl)) parts.1

pub same_groups : (e : NodeId × EntryRecord) (t : Tree) → group_rows (with_entry e t) ≡ group_rows t
same_groups e (node v r es ts) = refl

same_height : (e : NodeId × EntryRecord) (t : Tree) → height (with_entry e t) ≡ height t
same_height e (node v r es ts) = refl

-- ---- the document

module _ (d : BareDoc) (is : IsDoc d) (g : NodeId) (e : NodeId × EntryRecord) (b : Tree) (there : group_with g d.tree ≡ Some b) (free : is_free e.0 d ≡ true) (proper : is_proper_entry e.1 ≡ true) where
  abbrev pub new_tree : Tree
  new_tree = changed_at g (with_entry e) d.tree

  pub keeps : id_of (with_entry e b) ≡ g
  keeps = same_group e b ∙ found_id g d.tree b there

  pub ids : RowsChange node_ids d.tree new_tree b (with_entry e b)
  ids = rows_change node_ids node_ids_all ids_rows g (with_entry e) d.tree b there keeps

  pub to_nil : (not (is_id nil_id e.0) ≡ true) × (is_elsewhere d.tree e.0 ≡ true)
  to_nil = and_true (not (is_id nil_id e.0)) (is_elsewhere d.tree e.0) (and_true (not (is_id nil_id e.0) && is_elsewhere d.tree e.0) (list_all (λ (t : Tombstone). not (is_id t.id e.0)) d.tombs) free).0

  pub off_tombs : list_all (λ (t : Tombstone). not (is_id t.id e.0)) d.tombs ≡ true
  off_tombs = (and_true (not (is_id nil_id e.0) && is_elsewhere d.tree e.0) (list_all (λ (t : Tombstone). not (is_id t.id e.0)) d.tombs) free).1

  pub counted : (x : NodeId) → occurs x (node_ids new_tree) ≡ occurs x (node_ids d.tree) + one_if (is_id x e.0)
  counted x =
      let change = occurs_change x d.tree new_tree b (with_entry e b) ids in
      let more = one_more x e b in
      omega (arith, change, more)

  pub still_off : (x : NodeId) → is_elsewhere d.tree x ≡ true → not (is_id x e.0) ≡ true → is_elsewhere new_tree x ≡ true
  still_off x was other =
      let now = counted x in
      let zero = elsewhere_occurs d.tree x was in
      let off = ap one_if (not_true (is_id x e.0) other) in
      let none : occurs x (node_ids new_tree) ≡ 0 = omega (arith, now, zero, off) in
      occurs_elsewhere new_tree x none

  pub at_most : (x : NodeId) → occurs x (node_ids new_tree) ≤ 1
  at_most x =
      let now = counted x in
      elim (decide (is_id x e.0)) [
        | inl p ↦
            let here = ap one_if p in
            let same = ap (λ y. occurs y (node_ids d.tree)) (same_id x e.0 p) in
            let zero = elsewhere_occurs d.tree e.0 to_nil.1 in
            omega (arith, now, here, same, zero)
        | inr p ↦
            let here = ap one_if p in
            let was = once (node_ids d.tree) is.distinct x in
            omega (arith, now, here, was)
      ]

  pub added_is_doc : IsDoc (record d { tree = new_tree })
  added_is_doc = record {
    distinct = distinct (node_ids new_tree) at_most;
    no_nil = still_off nil_id is.no_nil to_nil.0;
    levels = (
        let by = ap height (changed_by g (with_entry e) d.tree b there) in
        let same = same_height e b in
        let lower : height (changed_at g (λ x. with_entry e b) d.tree) ≤ height d.tree = no_higher g (with_entry e b) d.tree b there (omega (arith, same)) in
        let most = is.levels in
        omega (arith, by, lower, most));
    tombs_rise = is.tombs_rise;
    tombs_apart = all_both (λ (t : Tombstone). is_elsewhere d.tree t.id) (λ (t : Tombstone). not (is_id t.id e.0)) (λ (t : Tombstone). is_elsewhere new_tree t.id) d.tombs
        (λ t was other. still_off t.id was other) is.tombs_apart off_tombs;
    entries_proper = all_change entry_rows (λ (r : NodeId × EntryRecord). is_proper_entry r.1) d.tree new_tree b (with_entry e b)
        (rows_change entry_rows entry_rows_all entries_rows g (with_entry e) d.tree b there keeps) is.entries_proper (all_entries (λ (r : NodeId × EntryRecord). is_proper_entry r.1) e b proper);
    groups_proper = all_change group_rows (λ (r : NodeId × GroupRecord). is_proper_group_content r.1.state.content) d.tree new_tree b (with_entry e b)
        (rows_change group_rows _ groups_rows g (with_entry e) d.tree b there keeps) is.groups_proper
        (λ all. ap (list_all (λ (r : NodeId × GroupRecord). is_proper_group_content r.1.state.content)) (same_groups e b) ∙ all);
    icons_rise = is.icons_rise;
    items_rise = is.items_rise;
    meta_texts = is.meta_texts;
  }

-- what an entry put into a tree leaves is a document's, whatever was answered
pub put_is_doc : {E : Type 0} (d : BareDoc) → IsDoc d → (g : NodeId) (e : NodeId × EntryRecord) → has_group g d.tree ≡ true → is_free e.0 d ≡ true → is_proper_entry e.1 ≡ true
    → (new : Tree) (o : Option (Result (Unit {0}) E))
    → MatchOption o ((has_group g d.tree ≡ false) × (new ≡ d.tree)) (λ out. MatchResult out (λ _. new ≡ changed_at g (with_entry e) d.tree) (λ _. new ≡ d.tree))
    → IsDoc (record d { tree = new })
put_is_doc d is g e there free proper new None h = subst (λ (t : Tree). IsDoc (record d { tree = t })) (sym h.1) is
put_is_doc d is g e there free proper new (Some (Ok x)) h =
    let f = found_group g d.tree there in
    subst (λ (t : Tree). IsDoc (record d { tree = t })) (sym h) (added_is_doc d is g e f.0 f.1 free proper)
put_is_doc d is g e there free proper new (Some (Err x)) h = subst (λ (t : Tree). IsDoc (record d { tree = t })) (sym h) is

-- ---- a free id

pub not_free : (u : NodeId) (d : BareDoc) → is_id nil_id u ≡ true → is_free u d ≡ false
not_free u d e = ap (λ (b : Bool). not b && is_elsewhere d.tree u && list_all (λ (t : Tombstone). not (is_id t.id u)) d.tombs) e

pub node_not_free : (u : NodeId) (d : BareDoc) → is_elsewhere d.tree u ≡ false → is_free u d ≡ false
node_not_free u d e = is_false (is_free u d) (λ h. apart (is_elsewhere d.tree u)
    (and_true (not (is_id nil_id u)) (is_elsewhere d.tree u) (and_true (not (is_id nil_id u) && is_elsewhere d.tree u) (list_all (λ (t : Tombstone). not (is_id t.id u)) d.tombs) h).0).1 e)

pub free_is : (u : NodeId) (d : BareDoc) (b : Bool) → is_id nil_id u ≡ false → list_any (is_id u) (node_ids d.tree) ≡ false → b ≡ list_all (λ (t : Tombstone). not (is_id t.id u)) d.tombs → b ≡ is_free u d
free_is u d b off none e = e ∙ sym (ap (λ (c : Bool). not c && is_elsewhere d.tree u && list_all (λ (t : Tombstone). not (is_id t.id u)) d.tombs) off
    ∙ ap (λ (c : Bool). not c && list_all (λ (t : Tombstone). not (is_id t.id u)) d.tombs) none)
