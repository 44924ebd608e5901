-- A document without one of its entries, which has a tombstone, is a document.
use Rattle.std.proofs.Common.{◌≡◌, ◌≤◌, ◌+◌, ℕ, Bool, true, false, not, cond, ◌&&◌, inl, inr, List, [], ◌∷◌, ◌++◌, Option, None, Some, find, option_and_then, subst, refl, sym, ap, ◌∙◌, arith}
use Rattle.std.proofs.lemmas.Option.{same_Some}
use Rattle.std.specs.List.{list_all}
use Rattle.std.specs.Ordering.{is_lt, ordering_reverse}
use Rattle.std.specs.declared.cmp.Ordering.{Ordering}
use Rattle.std.specs.declared.cmp.Ordering.TheVariants.{Less, Equal, Greater}
use Rattle.vault_model.specs.declared.nodes.Tombstone.{Tombstone}
use Rattle.vault_model.specs.Db.{NodeId, id_cmp, nil_id}
use Rattle.vault_model.specs.Join.{is_id}
use Rattle.vault_model.specs.Proper.{is_proper_group_content, rises}
use Rattle.vault_model.specs.Shape.{EntryRecord, GroupRecord}
use Rattle.vault_model.specs.Tree.{BareDoc, IsDoc, Tree, entry_rows, entry_rows_all, group_rows, group_rows_all, height, id_of, is_elsewhere, is_proper_entry, node, node_ids, node_ids_all}
use Rattle.vault_model.proofs.Ids.{id_itself, is_same_id, same_id}
use Rattle.vault_model.proofs.Orders.{id_order}
use Rattle.vault_model.proofs.Tests.{and_both, and_true, apart, decide, is_false, map_append, not_false, not_true}
use Rattle.tree_core.proofs.Options.{never}
use Rattle.vault_model.specs.SeenNodes.{entry_time}
use Rattle.tree_core.specs.Changes.{changed_at, entry_at, group_with, own_entry, tomb_at, with_tomb, without, without_entry}
use Rattle.tree_core.proofs.Around.{RowsChange, all_change, entries_rows, found_id, groups_rows, ids_rows, no_higher, occurs_change, rows_change}
use Rattle.tree_core.proofs.Changed.{changed_by}
use Rattle.tree_core.proofs.Counted.{all_append, all_both, all_front, distinct, elsewhere_occurs, occurs, occurs-append, occurs_elsewhere, once, one_if}
use Rattle.tree_core.proofs.Rows.{keys}

-- ---- entries around the first of an id

pub record Split (u : NodeId) (e : NodeId × EntryRecord) (es : List (NodeId × EntryRecord)) : Type 0 where
  pub front : List (NodeId × EntryRecord)
  pub back : List (NodeId × EntryRecord)
  pub was : es ≡ front ++ e ∷ back
  pub now : without u es ≡ front ++ back
  pub id : e.0 ≡ u

pub split : (u : NodeId) (e : NodeId × EntryRecord) (es : List (NodeId × EntryRecord)) → find (λ (x : NodeId × EntryRecord). is_id x.0 u) es ≡ Some e → Split u e es
split u e [] h = never e h
split u e (x ∷ xs) h =
    elim (decide (is_id x.0 u)) [
      | inl p ↦
          let same : x ≡ e = same_Some x e (ap (λ b. cond b (Some x) (find (λ (y : NodeId × EntryRecord). is_id y.0 u) xs)) (sym p) ∙ h) in
          record {
            front = [];
            back = xs;
            was = ap (λ y. y ∷ xs) same;
            now = ap (λ b. cond b xs (x ∷ without u xs)) p;
            id = ap (λ (y : NodeId × EntryRecord). y.0) (sym same) ∙ same_id x.0 u p;
          }
      | inr p ↦
          let rest = split u e xs (ap (λ b. cond b (Some x) (find (λ (y : NodeId × EntryRecord). is_id y.0 u) xs)) (sym p) ∙ h) in
          record {
            front = x ∷ rest.front;
            back = rest.back;
            was = ap (λ ys. x ∷ ys) rest.was;
            now = ap (λ b. cond b xs (x ∷ without u xs)) p ∙ ap (λ ys. x ∷ ys) rest.now;
            id = rest.id;
          }
    ]

-- ---- a group without one of its entries

pub same_group : (u : NodeId) (t : Tree) → id_of (without_entry u t) ≡ id_of t
same_group u (node v r es ts) = refl

pub same_groups : (u : NodeId) (t : Tree) → group_rows (without_entry u t) ≡ group_rows t
same_groups u (node v r es ts) = refl

same_height : (u : NodeId) (t : Tree) → height (without_entry u t) ≡ height t
same_height u (node v r es ts) = refl

pub one_less : (x u : NodeId) (e : NodeId × EntryRecord) (t : Tree) → own_entry u t ≡ Some e → occurs x (node_ids (without_entry u t)) + one_if (is_id x e.0) ≡ occurs x (node_ids t)
one_less x u e (node v r es ts) h =
    let s = split u e es h in
    let now = ap (λ ys. occurs x (keys ys ++ node_ids_all ts)) s.now in
    let now2 = ap (λ ys. occurs x (ys ++ node_ids_all ts)) (map_append (λ (y : NodeId × EntryRecord). y.0) s.front s.back) in
    let now3 = occurs-append x (keys s.front ++ keys s.back) (node_ids_all ts) in
    let now4 = occurs-append x (keys s.front) (keys s.back) in
    let was = ap (λ ys. occurs x (keys ys ++ node_ids_all ts)) s.was in
    let was2 = ap (λ ys. occurs x (ys ++ node_ids_all ts)) (map_append (λ (y : NodeId × EntryRecord). y.0) s.front (e ∷ s.back)) in
    let was3 = occurs-append x (keys s.front ++ e.0 ∷ keys s.back) (node_ids_all ts) in
    let was4 = occurs-append x (keys s.front) (e.0 ∷ keys s.back) in
    omega (arith, now, now2, now3, now4, was, was2, was3, was4)

all_entries : (test : NodeId × EntryRecord → Bool) (u : NodeId) (e : NodeId × EntryRecord) (t : Tree) → own_entry u t ≡ Some e
    → list_all test (entry_rows t) ≡ true → list_all test (entry_rows (without_entry u t)) ≡ true
all_entries test u e (node v r es ts) h all =
    let s = split u e es h in
    let parts = all_front test es (entry_rows_all ts) all in
    let own = all_front test s.front (e ∷ s.back) (ap (list_all test) (sym s.was) ∙ parts.0) in
    all_append test (without u es) (entry_rows_all ts)
    (ap (list_all test) s.now ∙ all_append test s.front s.back own.0 (and_true (test e) (list_all test s.back) own.1).1) parts.1

pub own_id : (u : NodeId) (t : Tree) (e : NodeId × EntryRecord) → own_entry u t ≡ Some e → e.0 ≡ u
own_id u (node v r es ts) e h = (split u e es h).id

own_counts : (u : NodeId) (t : Tree) (e : NodeId × EntryRecord) → own_entry u t ≡ Some e → 1 ≤ occurs e.0 (node_ids t)
own_counts u t e h =
    let less = one_less e.0 u e t h in
    let here = ap one_if (id_itself e.0) in
    omega (arith, less, here)

-- ---- tombstones in order

module _ (t : Tombstone) where
  is_less : (r : Ordering) → is_lt r ≡ true → r ≡ Less
  is_less Less e = refl
  is_less Equal e = cc e
  is_less Greater e = cc e

  -- what is not greater, and another id, is less
  then_less : (a b : NodeId) (r : Ordering) → id_cmp a b ≡ r → is_lt r ≡ false → is_id b a ≡ false → is_lt (id_cmp b a) ≡ true
  then_less a b Less e off other = cc off
  then_less a b Equal e off other = apart (is_id b a) (is_same_id b a (sym (id_order.same a b e))) other
  then_less a b Greater e off other = ap is_lt (id_order.total.antisymm b a ∙ ap ordering_reverse e)

  after : Tombstone → Tombstone → Bool
  after x y = is_lt (id_cmp x.id y.id)

  all_with : (test : Tombstone → Bool) (xs : List Tombstone) → test t ≡ true → list_all test xs ≡ true → list_all test (with_tomb t xs) ≡ true
  all_with test [] here all = and_both (test t) true here refl
  all_with test (x ∷ xs) here all =
      elim (decide (is_lt (id_cmp t.id x.id))) [
        | inl p ↦ ap (λ b. list_all test (cond b (t ∷ x ∷ xs) (x ∷ with_tomb t xs))) p ∙ and_both (test t) (list_all test (x ∷ xs)) here all
        | inr p ↦
            let both = and_true (test x) (list_all test xs) all in
            ap (λ b. list_all test (cond b (t ∷ x ∷ xs) (x ∷ with_tomb t xs))) p ∙ and_both (test x) (list_all test (with_tomb t xs)) both.0 (all_with test xs here both.1)
      ]

  pub tombs_all : (test : Tombstone → Bool) (xs : List Tombstone) → test t ≡ true → list_all test xs ≡ true → list_all test (with_tomb t xs) ≡ true
  tombs_all = all_with

  all_later : (x : Tombstone) (xs : List Tombstone) → is_lt (id_cmp t.id x.id) ≡ true → list_all (λ (y : Tombstone). is_lt (id_cmp x.id y.id)) xs ≡ true
      → list_all (λ (y : Tombstone). is_lt (id_cmp t.id y.id)) xs ≡ true
  all_later x [] p e = refl
  all_later x (y ∷ ys) p e =
      let both = and_true (is_lt (id_cmp x.id y.id)) (list_all (λ (z : Tombstone). is_lt (id_cmp x.id z.id)) ys) e in
      and_both (is_lt (id_cmp t.id y.id)) (list_all (λ (z : Tombstone). is_lt (id_cmp t.id z.id)) ys)
      (ap is_lt (id_order.total.trans t.id x.id y.id (is_less (id_cmp t.id x.id) p) (is_less (id_cmp x.id y.id) both.0))) (all_later x ys p both.1)

  pub tombs_rise : (xs : List Tombstone) → rises (λ (x : Tombstone). x.id) xs ≡ true → list_all (λ (x : Tombstone). not (is_id x.id t.id)) xs ≡ true
      → rises (λ (x : Tombstone). x.id) (with_tomb t xs) ≡ true
  tombs_rise [] e other = refl
  tombs_rise (x ∷ xs) e other =
      let both = and_true (list_all (λ (y : Tombstone). is_lt (id_cmp x.id y.id)) xs) (rises (λ (y : Tombstone). y.id) xs) e in
      let others = and_true (not (is_id x.id t.id)) (list_all (λ (y : Tombstone). not (is_id y.id t.id)) xs) other in
      elim (decide (is_lt (id_cmp t.id x.id))) [
        | inl p ↦
            ap (λ b. rises (λ (y : Tombstone). y.id) (cond b (t ∷ x ∷ xs) (x ∷ with_tomb t xs))) p
            ∙ and_both (is_lt (id_cmp t.id x.id) && list_all (λ (y : Tombstone). is_lt (id_cmp t.id y.id)) xs) (rises (λ (y : Tombstone). y.id) (x ∷ xs))
            (and_both (is_lt (id_cmp t.id x.id)) (list_all (λ (y : Tombstone). is_lt (id_cmp t.id y.id)) xs) p (all_later x xs p both.0)) e
        | inr p ↦
            let less = then_less t.id x.id (id_cmp t.id x.id) refl p (not_true (is_id x.id t.id) others.0) in
            ap (λ b. rises (λ (y : Tombstone). y.id) (cond b (t ∷ x ∷ xs) (x ∷ with_tomb t xs))) p
            ∙ and_both (list_all (λ (y : Tombstone). is_lt (id_cmp x.id y.id)) (with_tomb t xs)) (rises (λ (y : Tombstone). y.id) (with_tomb t xs))
            (all_with (λ (y : Tombstone). is_lt (id_cmp x.id y.id)) xs less both.0) (tombs_rise xs both.1 others.1)
      ]

-- ---- the document

module _ (d : BareDoc) (is : IsDoc d) (g u : NodeId) (e : NodeId × EntryRecord) (b : Tree) (there : group_with g d.tree ≡ Some b) (own : own_entry u b ≡ Some e) where
  abbrev pub new_tree : Tree
  new_tree = changed_at g (without_entry u) d.tree

  pub keeps : id_of (without_entry u b) ≡ g
  keeps = same_group u b ∙ found_id g d.tree b there

  pub ids : RowsChange node_ids d.tree new_tree b (without_entry u b)
  ids = rows_change node_ids node_ids_all ids_rows g (without_entry u) d.tree b there keeps

  pub counted : (x : NodeId) → occurs x (node_ids new_tree) + one_if (is_id x e.0) ≡ occurs x (node_ids d.tree)
  counted x =
      let change = occurs_change x d.tree new_tree b (without_entry u b) ids in
      let less = one_less x u e b own in
      omega (arith, change, less)

  pub was_once : occurs e.0 (node_ids d.tree) ≡ 1
  was_once =
      let most = once (node_ids d.tree) is.distinct e.0 in
      let now = counted e.0 in
      let here = ap one_if (id_itself e.0) in
      omega (arith, most, now, here)

  pub gone : is_elsewhere new_tree e.0 ≡ true
  gone =
      let now = counted e.0 in
      let here = ap one_if (id_itself e.0) in
      let one = was_once in
      let none : occurs e.0 (node_ids new_tree) ≡ 0 = omega (arith, now, here, one) in
      occurs_elsewhere new_tree e.0 none

  pub still_off : (x : NodeId) → is_elsewhere d.tree x ≡ true → is_elsewhere new_tree x ≡ true
  still_off x was =
      let now = counted x in
      let zero = elsewhere_occurs d.tree x was in
      let none : occurs x (node_ids new_tree) ≡ 0 = omega (arith, now, zero) in
      occurs_elsewhere new_tree x none

  at_most : (x : NodeId) → occurs x (node_ids new_tree) ≤ 1
  at_most x =
      let now = counted x in
      let was = once (node_ids d.tree) is.distinct x in
      omega (arith, now, was)

  -- no tombstone is of the entry's id
  pub untombed : list_all (λ (x : Tombstone). not (is_id x.id e.0)) d.tombs ≡ true
  untombed = all_both (λ (x : Tombstone). is_elsewhere d.tree x.id) (λ (x : Tombstone). is_elsewhere d.tree x.id) (λ (x : Tombstone). not (is_id x.id e.0)) d.tombs
      (λ x off more. not_false (is_id x.id e.0) (is_false (is_id x.id e.0) (λ p.
      let zero = elsewhere_occurs d.tree x.id off in
      let same = ap (λ v. occurs v (node_ids d.tree)) (same_id x.id e.0 p) in
      let one = was_once in
      absurd (omega (arith, zero, same, one))))) is.tombs_apart is.tombs_apart

  -- the document without the entry, and with no tombstone
  pub removed_is_doc : IsDoc (record d { tree = new_tree })
  removed_is_doc = record {
    distinct = distinct (node_ids new_tree) at_most;
    no_nil = still_off nil_id is.no_nil;
    levels = (
        let by = ap height (changed_by g (without_entry u) d.tree b there) in
        let same = same_height u b in
        let lower : height (changed_at g (λ x. without_entry u b) d.tree) ≤ height d.tree = no_higher g (without_entry u b) d.tree b there (omega (arith, same)) in
        let most = is.levels in
        omega (arith, by, lower, most));
    tombs_rise = is.tombs_rise;
    tombs_apart = all_both (λ (x : Tombstone). is_elsewhere d.tree x.id) (λ (x : Tombstone). is_elsewhere d.tree x.id) (λ (x : Tombstone). is_elsewhere new_tree x.id) d.tombs
        (λ x off more. still_off x.id off) is.tombs_apart is.tombs_apart;
    entries_proper = all_change entry_rows (λ (r : NodeId × EntryRecord). is_proper_entry r.1) d.tree new_tree b (without_entry u b)
        (rows_change entry_rows entry_rows_all entries_rows g (without_entry u) d.tree b there keeps) is.entries_proper (all_entries (λ (r : NodeId × EntryRecord). is_proper_entry r.1) u e b own);
    groups_proper = all_change group_rows (λ (r : NodeId × GroupRecord). is_proper_group_content r.1.state.content) d.tree new_tree b (without_entry u b)
        (rows_change group_rows group_rows_all groups_rows g (without_entry u) d.tree b there keeps) is.groups_proper
        (λ all. ap (list_all (λ (r : NodeId × GroupRecord). is_proper_group_content r.1.state.content)) (same_groups u b) ∙ all);
    icons_rise = is.icons_rise;
    items_rise = is.items_rise;
    meta_texts = is.meta_texts;
  }

  pub buried_is_doc : (time : ℕ) → IsDoc (record d { tree = new_tree; tombs = with_tomb (record { id = e.0; deleted = time }) d.tombs })
  buried_is_doc time =
      let r = removed_is_doc in
      let t : Tombstone = record { id = e.0; deleted = time } in
      record {
        distinct = r.distinct;
        no_nil = r.no_nil;
        levels = r.levels;
        tombs_rise = tombs_rise t d.tombs is.tombs_rise untombed;
        tombs_apart = tombs_all t (λ (x : Tombstone). is_elsewhere new_tree x.id) d.tombs gone r.tombs_apart;
        entries_proper = r.entries_proper;
        groups_proper = r.groups_proper;
        icons_rise = r.icons_rise;
        items_rise = r.items_rise;
        meta_texts = r.meta_texts;
      }

-- ---- what a deletion leaves

-- the group and its entry that are found
pub found_at : (g u : NodeId) (t : Tree) (e : NodeId × EntryRecord) → entry_at g u t ≡ Some e → (b : Tree) × ((group_with g t ≡ Some b) × (own_entry u b ≡ Some e))
found_at g u t e h = of (group_with g t) refl h
  where
    of : (o : Option Tree) → group_with g t ≡ o → option_and_then (own_entry u) o ≡ Some e → (b : Tree) × ((group_with g t ≡ Some b) × (own_entry u b ≡ Some e))
    of None q k = never e k
    of (Some b) q k = (b, (q, k))

pub deleted_is_doc : (d : BareDoc) → IsDoc d → (g u : NodeId) (now : ℕ) (e : NodeId × EntryRecord) → entry_at g u d.tree ≡ Some e → IsDoc (record d { tree = changed_at g (without_entry e.0) d.tree; tombs = with_tomb (tomb_at now e.0 (entry_time e.1)) d.tombs })
deleted_is_doc d is g u now e h =
    let f = found_at g u d.tree e h in
    subst (λ (v : NodeId). IsDoc (record d { tree = changed_at g (without_entry v) d.tree; tombs = with_tomb (tomb_at now e.0 (entry_time e.1)) d.tombs })) (sym (own_id u f.0 e f.1.1))
    (buried_is_doc d is g u e f.0 f.1.0 f.1.1 (tomb_at now e.0 (entry_time e.1)).deleted)
