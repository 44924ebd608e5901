-- A document with one of its entries edited is a document.
use Rattle.std.proofs.Common.{◌≡◌, ◌≤◌, Bool, true, false, not, cond, inl, inr, List, [], ◌∷◌, ◌++◌, Option, None, Some, find, option_and_then, refl, sym, ap, subst, ◌∙◌, arith}
use Rattle.std.specs.List.{list_all, list_any}
use Rattle.vault_model.specs.declared.nodes.Tombstone.{Tombstone}
use Rattle.vault_model.specs.Db.{NodeId, nil_id}
use Rattle.vault_model.specs.Join.{is_id}
use Rattle.vault_model.specs.Proper.{is_proper_group_content}
use Rattle.vault_model.specs.Shape.{EntryRecord, GroupRecord}
use Rattle.vault_model.specs.Tree.{BareDoc, IsDoc, Tree, are_distinct, entry_rows, entry_rows_all, group_rows, group_rows_all, height, id_of, is_elsewhere, is_proper_entry, node, node_ids, node_ids_all}
use Rattle.vault_model.proofs.Ids.{same_id}
use Rattle.vault_model.proofs.Tests.{and_both, and_true, decide}
use Rattle.std.proofs.lemmas.Option.{same_Some}
use Rattle.tree_core.proofs.Options.{never}
use Rattle.tree_core.specs.Changes.{changed_at, changed_entry, entry_at, own_entry, group_with, has_group, on_entries, with_changed}
use Rattle.tree_core.proofs.Around.{all_change, entries_rows, found_group, found_id, groups_rows, ids_rows, no_higher, rows_change}
use Rattle.tree_core.proofs.Changed.{changed_by, changed_off}
use Rattle.tree_core.proofs.Counted.{all_append, all_both, all_front}
use Rattle.tree_core.proofs.Rows.{keys}

module _ (u : NodeId) (f : EntryRecord → EntryRecord) where
  abbrev k : List (NodeId × EntryRecord) → List (NodeId × EntryRecord)
  k = with_changed u f

  pub same_keys : (es : List (NodeId × EntryRecord)) → keys (k es) ≡ keys es
  same_keys [] = refl
  same_keys (e ∷ es) =
      elim (decide (is_id e.0 u)) [
        | inl p ↦ ap (λ b. keys (cond b ((e.0, f e.1) ∷ es) (e ∷ k es))) p
        | inr p ↦ ap (λ b. keys (cond b ((e.0, f e.1) ∷ es) (e ∷ k es))) p ∙ ap (λ us. e.0 ∷ us) (same_keys es)
      ]

  same_ids : (t : Tree) → node_ids (on_entries k t) ≡ node_ids t
  same_ids (node v r es ts) = ap (λ us. v ∷ (us ++ node_ids_all ts)) (same_keys es)

  pub same_group : (t : Tree) → id_of (on_entries k t) ≡ id_of t
  same_group (node v r es ts) = refl

  pub same_groups : (t : Tree) → group_rows (on_entries k t) ≡ group_rows t
  same_groups (node v r es ts) = refl

  same_height : (t : Tree) → height (on_entries k t) ≡ height t
  same_height (node v r es ts) = refl

  abbrev proper : NodeId × EntryRecord → Bool
  proper r = is_proper_entry r.1

  all_proper : ((e : EntryRecord) → is_proper_entry e ≡ true → is_proper_entry (f e) ≡ true) → (es : List (NodeId × EntryRecord)) → list_all proper es ≡ true → list_all proper (k es) ≡ true
  all_proper keeps [] all = refl
  all_proper keeps (e ∷ es) all =
      let both = and_true (proper e) (list_all proper es) all in
      elim (decide (is_id e.0 u)) [
        | inl p ↦ ap (λ b. list_all proper (cond b ((e.0, f e.1) ∷ es) (e ∷ k es))) p ∙ and_both (is_proper_entry (f e.1)) (list_all proper es) (keeps e.1 both.0) both.1
        | inr p ↦ ap (λ b. list_all proper (cond b ((e.0, f e.1) ∷ es) (e ∷ k es))) p ∙ and_both (proper e) (list_all proper (k es)) both.0 (all_proper keeps es both.1)
      ]

  proper_rows : ((e : EntryRecord) → is_proper_entry e ≡ true → is_proper_entry (f e) ≡ true) → (t : Tree) → list_all proper (entry_rows t) ≡ true → list_all proper (entry_rows (on_entries k t)) ≡ true
  proper_rows keeps (node v r es ts) all =
      let parts = all_front proper es (entry_rows_all ts) all in
      all_append proper (k es) (entry_rows_all ts) (all_proper keeps es parts.0) parts.1

  module _ (d : BareDoc) (is : IsDoc d) (g : NodeId) (b : Tree) (there : group_with g d.tree ≡ Some b) (keeps : (e : EntryRecord) → is_proper_entry e ≡ true → is_proper_entry (f e) ≡ true) where
    abbrev new : Tree
    new = changed_at g (on_entries k) d.tree

    stays : id_of (on_entries k b) ≡ g
    stays = same_group b ∙ found_id g d.tree b there

    pub ids_same : node_ids new ≡ node_ids d.tree
    ids_same =
        let change = rows_change node_ids node_ids_all ids_rows g (on_entries k) d.tree b there stays in
        change.now ∙ ap (λ xs. change.front ++ (xs ++ change.back)) (same_ids b) ∙ sym change.was

    off_same : (x : NodeId) → is_elsewhere new x ≡ is_elsewhere d.tree x
    off_same x = ap (λ us. not (list_any (is_id x) us)) ids_same

    pub edited_is_doc : IsDoc (record d { tree = new })
    edited_is_doc = record {
      distinct = ap are_distinct ids_same ∙ is.distinct;
      no_nil = off_same nil_id ∙ is.no_nil;
      levels = (
          let by = ap height (changed_by g (on_entries k) d.tree b there) in
          let same = same_height b in
          let lower : height (changed_at g (λ x. on_entries k b) d.tree) ≤ height d.tree = no_higher g (on_entries k b) d.tree b there (omega (arith, same)) in
          let most = is.levels in
          omega (arith, by, lower, most));
      tombs_rise = is.tombs_rise;
      tombs_apart = all_both (λ (x : Tombstone). is_elsewhere d.tree x.id) (λ (x : Tombstone). is_elsewhere d.tree x.id) (λ (x : Tombstone). is_elsewhere new x.id) d.tombs
          (λ x off more. off_same x.id ∙ off) is.tombs_apart is.tombs_apart;
      entries_proper = all_change entry_rows proper d.tree new b (on_entries k b)
          (rows_change entry_rows entry_rows_all entries_rows g (on_entries k) d.tree b there stays) is.entries_proper (proper_rows keeps b);
      groups_proper = all_change group_rows (λ (r : NodeId × GroupRecord). is_proper_group_content r.1.state.content) d.tree new b (on_entries k b)
          (rows_change group_rows group_rows_all groups_rows g (on_entries k) d.tree b there stays) is.groups_proper
          (λ all. ap (list_all (λ (r : NodeId × GroupRecord). is_proper_group_content r.1.state.content)) (same_groups b) ∙ all);
      icons_rise = is.icons_rise;
      items_rise = is.items_rise;
      meta_texts = is.meta_texts;
    }

-- an entry of a document has versions in order
pub entry_is_proper : (d : BareDoc) → IsDoc d → (g u : NodeId) (e : NodeId × EntryRecord) → entry_at g u d.tree ≡ Some e → is_proper_entry e.1 ≡ true
entry_is_proper d is g u e found = of (group_with g d.tree) refl
  where
    first : (es : List (NodeId × EntryRecord)) → list_all (λ (r : NodeId × EntryRecord). is_proper_entry r.1) es ≡ true → find (λ (x : NodeId × EntryRecord). is_id x.0 u) es ≡ Some e → is_proper_entry e.1 ≡ true
    first [] all f = never e f
    first (x ∷ xs) all f =
        let both = and_true (is_proper_entry x.1) (list_all (λ (r : NodeId × EntryRecord). is_proper_entry r.1) xs) all in
        elim (decide (is_id x.0 u)) [
          | inl p ↦ ap (λ (y : NodeId × EntryRecord). is_proper_entry y.1) (sym (same_Some x e (ap (λ b. cond b (Some x) (find (λ (y : NodeId × EntryRecord). is_id y.0 u) xs)) (sym p) ∙ f))) ∙ both.0
          | inr p ↦ first xs both.1 (ap (λ b. cond b (Some x) (find (λ (y : NodeId × EntryRecord). is_id y.0 u) xs)) (sym p) ∙ f)
        ]

    inside : (b : Tree) → list_all (λ (r : NodeId × EntryRecord). is_proper_entry r.1) (entry_rows b) ≡ true → own_entry u b ≡ Some e → is_proper_entry e.1 ≡ true
    inside (node v r es ts) all f = first es (all_front (λ (x : NodeId × EntryRecord). is_proper_entry x.1) es (entry_rows_all ts) all).0 f

    of : (o : Option Tree) → group_with g d.tree ≡ o → is_proper_entry e.1 ≡ true
    of None q = never e (sym (ap (option_and_then (own_entry u)) q) ∙ found)
    of (Some b) q =
        let rows = rows_change entry_rows entry_rows_all entries_rows g (λ x. x) d.tree b q (found_id g d.tree b q) in
        let P = λ (r : NodeId × EntryRecord). is_proper_entry r.1 in
        let outer = all_front P rows.front (entry_rows b ++ rows.back) (ap (list_all P) (sym rows.was) ∙ is.entries_proper) in
        inside b (all_front P (entry_rows b) rows.back outer.1).0 (sym (ap (option_and_then (own_entry u)) q) ∙ found)

-- an entry that is changed to one in order leaves a document
pub set_is_doc : (d : BareDoc) → IsDoc d → (g u : NodeId) (f : EntryRecord → EntryRecord) → ((e : EntryRecord) → is_proper_entry e ≡ true → is_proper_entry (f e) ≡ true) → (new : Tree)
    → new ≡ changed_at g (changed_entry u f) d.tree → IsDoc (record d { tree = new })
set_is_doc d is g u f keeps new h = subst (λ (t : Tree). IsDoc (record d { tree = t })) (sym h) (of (has_group g d.tree) refl)
  where
    of : (b : Bool) → has_group g d.tree ≡ b → IsDoc (record d { tree = changed_at g (changed_entry u f) d.tree })
    of true q = let r = found_group g d.tree q in edited_is_doc u f d is g r.0 r.1 keeps
    of false q = subst (λ (t : Tree). IsDoc (record d { tree = t })) (sym (changed_off g (changed_entry u f) d.tree q)) is

-- ---- where a change comes to the same at the entry that is changed, the tree is the same

with_same : (u : NodeId) (f h : EntryRecord → EntryRecord) (e : NodeId × EntryRecord) (es : List (NodeId × EntryRecord)) → find (λ (x : NodeId × EntryRecord). is_id x.0 u) es ≡ Some e → f e.1 ≡ h e.1
    → with_changed u f es ≡ with_changed u h es
with_same u f h e [] found same = refl
with_same u f h e (x ∷ xs) found same =
    elim (decide (is_id x.0 u)) [
      | inl p ↦
          let is = same_Some x e (ap (λ b. cond b (Some x) (find (λ (y : NodeId × EntryRecord). is_id y.0 u) xs)) (sym p) ∙ found) in
          ap (λ b. cond b ((x.0, f x.1) ∷ xs) (x ∷ with_changed u f xs)) p
          ∙ ap (λ y. (x.0, y) ∷ xs) (ap (λ (y : NodeId × EntryRecord). f y.1) is ∙ same ∙ ap (λ (y : NodeId × EntryRecord). h y.1) (sym is))
          ∙ sym (ap (λ b. cond b ((x.0, h x.1) ∷ xs) (x ∷ with_changed u h xs)) p)
      | inr p ↦
          ap (λ b. cond b ((x.0, f x.1) ∷ xs) (x ∷ with_changed u f xs)) p
          ∙ ap (λ ys. x ∷ ys) (with_same u f h e xs (ap (λ b. cond b (Some x) (find (λ (y : NodeId × EntryRecord). is_id y.0 u) xs)) (sym p) ∙ found) same)
          ∙ sym (ap (λ b. cond b ((x.0, h x.1) ∷ xs) (x ∷ with_changed u h xs)) p)
    ]

changed_own : (u : NodeId) (f h : EntryRecord → EntryRecord) (e : NodeId × EntryRecord) (b : Tree) → own_entry u b ≡ Some e → f e.1 ≡ h e.1 → changed_entry u f b ≡ changed_entry u h b
changed_own u f h e (node v r es ts) found same = ap (λ xs. node v r xs ts) (with_same u f h e es found same)

pub changed_same : (g u : NodeId) (f h : EntryRecord → EntryRecord) (e : NodeId × EntryRecord) (t : Tree) → entry_at g u t ≡ Some e → f e.1 ≡ h e.1
    → changed_at g (changed_entry u f) t ≡ changed_at g (changed_entry u h) t
changed_same g u f h e t found same = of (group_with g t) refl
  where
    of : (o : Option Tree) → group_with g t ≡ o → changed_at g (changed_entry u f) t ≡ changed_at g (changed_entry u h) t
    of None q = never e (sym (ap (option_and_then (own_entry u)) q) ∙ found)
    of (Some b) q =
        sym (changed_by g (changed_entry u f) t b q)
        ∙ ap (λ x. changed_at g (λ y. x) t) (changed_own u f h e b (sym (ap (option_and_then (own_entry u)) q) ∙ found) same)
        ∙ changed_by g (changed_entry u h) t b q

-- an entry that is found has the id
pub found_key : (g u : NodeId) (e : NodeId × EntryRecord) (t : Tree) → entry_at g u t ≡ Some e → e.0 ≡ u
found_key g u e t found = of (group_with g t) refl
  where
    first : (es : List (NodeId × EntryRecord)) → find (λ (x : NodeId × EntryRecord). is_id x.0 u) es ≡ Some e → e.0 ≡ u
    first [] f = never e f
    first (x ∷ xs) f =
        elim (decide (is_id x.0 u)) [
          | inl p ↦ ap (λ (y : NodeId × EntryRecord). y.0) (sym (same_Some x e (ap (λ b. cond b (Some x) (find (λ (y : NodeId × EntryRecord). is_id y.0 u) xs)) (sym p) ∙ f))) ∙ same_id x.0 u p
          | inr p ↦ first xs (ap (λ b. cond b (Some x) (find (λ (y : NodeId × EntryRecord). is_id y.0 u) xs)) (sym p) ∙ f)
        ]

    own : (b : Tree) → own_entry u b ≡ Some e → e.0 ≡ u
    own (node v r es ts) f = first es f

    of : (o : Option Tree) → group_with g t ≡ o → e.0 ≡ u
    of None q = never e (sym (ap (option_and_then (own_entry u)) q) ∙ found)
    of (Some b) q = own b (sym (ap (option_and_then (own_entry u)) q) ∙ found)
