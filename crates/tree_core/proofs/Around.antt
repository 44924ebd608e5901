-- What stands around a group in a tree stays where the group is changed.
use Rattle.std.proofs.Common.{◌≡◌, ◌≤◌, ◌+◌, Bool, true, false, cond, ◌||◌, inl, inr, List, [], ◌∷◌, ◌++◌, Some, map, refl, sym, ap, ◌∙◌, arith, append_assoc, append-nil}
use Rattle.std.proofs.lemmas.Option.{same_Some}
use Rattle.std.specs.List.{list_all}
use Rattle.vault_model.specs.Db.{NodeId}
use Rattle.vault_model.specs.Join.{is_id}
use Rattle.vault_model.specs.Shape.{EntryRecord, GroupRecord}
use Rattle.vault_model.specs.Tree.{Tree, Trees, beside, child_rows, child_rows_all, entry_rows, entry_rows_all, group_rows, group_rows_all, height, height_all, id_of, ids_of, node, node_ids, node_ids_all, none}
use Rattle.vault_model.proofs.Ids.{same_id}
use Rattle.vault_model.proofs.Tests.{apart, decide}
use Rattle.tree_core.proofs.Options.{never}
use Rattle.tree_core.specs.Changes.{changed_at, changed_in, group_among, group_with, has_group, have_group}
use Rattle.tree_core.proofs.Changed.{absent_group, changed_by, changed_not}
use Rattle.tree_core.proofs.Counted.{all_append, all_front, occurs, occurs-append}

-- a group that is found has the id
mutual
  pub found_id : (u : NodeId) (t b : Tree) → group_with u t ≡ Some b → id_of b ≡ u
  found_id u (node v r es ts) b e =
      elim (decide (is_id v u)) [
        | inl p ↦ ap id_of (sym (same_Some (node v r es ts) b (ap (λ c. cond c (Some (node v r es ts)) (group_among u ts)) (sym p) ∙ e))) ∙ same_id v u p
        | inr p ↦ found_ids u ts b (ap (λ c. cond c (Some (node v r es ts)) (group_among u ts)) (sym p) ∙ e)
      ]

  found_ids : (u : NodeId) (ts : Trees) (b : Tree) → group_among u ts ≡ Some b → id_of b ≡ u
  found_ids u none b e = never b e
  found_ids u (beside t ts) b e =
      elim (decide (has_group u t)) [
        | inl p ↦ found_id u t b (ap (λ c. cond c (group_with u t) (group_among u ts)) (sym p) ∙ e)
        | inr p ↦ found_ids u ts b (ap (λ c. cond c (group_with u t) (group_among u ts)) (sym p) ∙ e)
      ]

-- the groups in a group are the same afterwards
pub same_root : (u : NodeId) (t w : Tree) → id_of w ≡ u → id_of (changed_at u (λ x. w) t) ≡ id_of t
same_root u (node v r es ts) w e =
    elim (decide (is_id v u)) [
      | inl p ↦ ap (λ c. id_of (cond c w (node v r es (changed_in u (λ x. w) ts)))) p ∙ e ∙ sym (same_id v u p)
      | inr p ↦ ap (λ c. id_of (cond c w (node v r es (changed_in u (λ x. w) ts)))) p
    ]

same_roots : (u : NodeId) (ts : Trees) (w : Tree) → id_of w ≡ u → ids_of (changed_in u (λ x. w) ts) ≡ ids_of ts
same_roots u none w e = refl
same_roots u (beside t ts) w e =
    elim (decide (has_group u t)) [
      | inl p ↦
          ap (λ c. ids_of (cond c (beside (changed_at u (λ x. w) t) ts) (beside t (changed_in u (λ x. w) ts)))) p
          ∙ ap (λ v. v ∷ ids_of ts) (same_root u t w e)
      | inr p ↦
          ap (λ c. ids_of (cond c (beside (changed_at u (λ x. w) t) ts) (beside t (changed_in u (λ x. w) ts)))) p
          ∙ ap (λ vs. id_of t ∷ vs) (same_roots u ts w e)
    ]

-- Rows that come from each group, in document order.
pub record AreRows {A : Type 0} (rows : Tree → List A) (rows_all : Trees → List A) : Type 0 where
  pub own : NodeId → GroupRecord → List (NodeId × EntryRecord) → List NodeId → List A
  pub at_node : (v : NodeId) (r : GroupRecord) (es : List (NodeId × EntryRecord)) (ts : Trees) → rows (node v r es ts) ≡ own v r es (ids_of ts) ++ rows_all ts
  pub at_none : rows_all none ≡ []
  pub at_beside : (t : Tree) (ts : Trees) → rows_all (beside t ts) ≡ rows t ++ rows_all ts

-- What stands before the rows of a group and behind them, whatever the group is changed to.
pub record Around {A : Type 0} (rows : Tree → List A) (changed : Tree → List A) (u : NodeId) : Type 0 where
  pub before : List A
  pub after : List A
  pub is : (w : Tree) → id_of w ≡ u → changed w ≡ before ++ (rows w ++ after)

module _ {A : Type 0} (rows : Tree → List A) (rows_all : Trees → List A) (are : AreRows rows rows_all) (u : NodeId) where
  mutual
    pub around : (t : Tree) → has_group u t ≡ true → Around rows (λ w. rows (changed_at u (λ x. w) t)) u
    around (node v r es ts) h =
        elim (decide (is_id v u)) [
          | inl p ↦ record {
            before = [];
            after = [];
            is = λ w e. ap (λ c. rows (cond c w (node v r es (changed_in u (λ x. w) ts)))) p ∙ sym (append-nil (rows w));
          }
          | inr p ↦
              let a = around_all ts (ap (λ c. c || have_group u ts) (sym p) ∙ h) in
              record {
                before = are.own v r es (ids_of ts) ++ a.before;
                after = a.after;
                is = λ w e.
                    ap (λ c. rows (cond c w (node v r es (changed_in u (λ x. w) ts)))) p
                    ∙ are.at_node v r es (changed_in u (λ x. w) ts)
                    ∙ ap (λ vs. are.own v r es vs ++ rows_all (changed_in u (λ x. w) ts)) (same_roots u ts w e)
                    ∙ ap (λ xs. are.own v r es (ids_of ts) ++ xs) (a.is w e)
                    ∙ sym (append_assoc (are.own v r es (ids_of ts)) a.before (rows w ++ a.after));
              }
        ]

    around_all : (ts : Trees) → have_group u ts ≡ true → Around rows (λ w. rows_all (changed_in u (λ x. w) ts)) u
    around_all none h = apart false h refl
    around_all (beside t ts) h =
        elim (decide (has_group u t)) [
          | inl p ↦
              let a = around t p in
              record {
                before = a.before;
                after = a.after ++ rows_all ts;
                is = λ w e.
                    ap (λ c. rows_all (cond c (beside (changed_at u (λ x. w) t) ts) (beside t (changed_in u (λ x. w) ts)))) p
                    ∙ are.at_beside (changed_at u (λ x. w) t) ts
                    ∙ ap (λ xs. xs ++ rows_all ts) (a.is w e)
                    ∙ append_assoc a.before (rows w ++ a.after) (rows_all ts)
                    ∙ ap (λ xs. a.before ++ xs) (append_assoc (rows w) a.after (rows_all ts));
              }
          | inr p ↦
              let a = around_all ts (ap (λ c. c || have_group u ts) (sym p) ∙ h) in
              record {
                before = rows t ++ a.before;
                after = a.after;
                is = λ w e.
                    ap (λ c. rows_all (cond c (beside (changed_at u (λ x. w) t) ts) (beside t (changed_in u (λ x. w) ts)))) p
                    ∙ are.at_beside t (changed_in u (λ x. w) ts)
                    ∙ ap (λ xs. rows t ++ xs) (a.is w e)
                    ∙ sym (append_assoc (rows t) a.before (rows w ++ a.after));
              }
        ]

-- Rows before and after a change of one group.
pub record RowsChange {A : Type 0} (rows : Tree → List A) (old new before after : Tree) : Type 0 where
  pub front : List A
  pub back : List A
  pub was : rows old ≡ front ++ (rows before ++ back)
  pub now : rows new ≡ front ++ (rows after ++ back)

pub rows_change : {A : Type 0} (rows : Tree → List A) (rows_all : Trees → List A) → AreRows rows rows_all
    → (u : NodeId) (f : Tree → Tree) (t b : Tree) → group_with u t ≡ Some b → id_of (f b) ≡ u → RowsChange rows t (changed_at u f t) b (f b)
rows_change rows rows_all are u f t b e same =
    let has : has_group u t ≡ true = elim (decide (has_group u t)) [ inl p ↦ p | inr p ↦ never b (sym (absent_group u t p) ∙ e) ] in
    let a = around rows rows_all are u t has in
    record {
      front = a.before;
      back = a.after;
      was = ap rows (sym (changed_by u (λ x. x) t b e ∙ changed_not u t)) ∙ a.is b (found_id u t b e);
      now = ap rows (sym (changed_by u f t b e)) ∙ a.is (f b) same;
    }

-- ---- the rows that a document is made of

pub ids_rows : AreRows node_ids node_ids_all
ids_rows = record {
  own = λ v r es vs. v ∷ map (λ (e : NodeId × EntryRecord). e.0) es;
  at_node = λ v r es ts. refl;
  at_none = refl;
  at_beside = λ t ts. refl;
}

pub entries_rows : AreRows entry_rows entry_rows_all
entries_rows = record { own = λ v r es vs. es; at_node = λ v r es ts. refl; at_none = refl; at_beside = λ t ts. refl }

pub groups_rows : AreRows group_rows group_rows_all
groups_rows = record { own = λ v r es vs. (v, r) ∷ []; at_node = λ v r es ts. refl; at_none = refl; at_beside = λ t ts. refl }

pub children_rows : AreRows child_rows child_rows_all
children_rows = record {
  own = λ v r es vs. (v, record { entries = map (λ (e : NodeId × EntryRecord). e.0) es; groups = vs }) ∷ [];
  at_node = λ v r es ts. refl;
  at_none = refl;
  at_beside = λ t ts. refl;
}

-- ---- what follows of counts and of what holds of all

pub occurs_change : (x : NodeId) (old new b c : Tree) → RowsChange node_ids old new b c → occurs x (node_ids new) + occurs x (node_ids b) ≡ occurs x (node_ids old) + occurs x (node_ids c)
occurs_change x old new b c h =
    let was = ap (occurs x) h.was ∙ occurs-append x h.front (node_ids b ++ h.back) in
    let was2 = occurs-append x (node_ids b) h.back in
    let now = ap (occurs x) h.now ∙ occurs-append x h.front (node_ids c ++ h.back) in
    let now2 = occurs-append x (node_ids c) h.back in
    omega (arith, was, was2, now, now2)

pub all_change : {A : Type 0} (rows : Tree → List A) (test : A → Bool) (old new b c : Tree) → RowsChange rows old new b c → list_all test (rows old) ≡ true
    → (list_all test (rows b) ≡ true → list_all test (rows c) ≡ true) → list_all test (rows new) ≡ true
all_change rows test old new b c h all then =
    let outer = all_front test h.front (rows b ++ h.back) (ap (list_all test) (sym h.was) ∙ all) in
    let inner = all_front test (rows b) h.back outer.1 in
    ap (list_all test) h.now ∙ all_append test h.front (rows c ++ h.back) outer.0 (all_append test (rows c) h.back (then inner.0) inner.1)

-- ---- levels

mutual
  pub no_higher : (u : NodeId) (w t b : Tree) → group_with u t ≡ Some b → height w ≤ height b → height (changed_at u (λ x. w) t) ≤ height t
  no_higher u w (node v r es ts) b e h =
      elim (decide (is_id v u)) [
        | inl p ↦
            let is = ap height (same_Some (node v r es ts) b (ap (λ c. cond c (Some (node v r es ts)) (group_among u ts)) (sym p) ∙ e)) in
            let now = ap (λ c. height (cond c w (node v r es (changed_in u (λ x. w) ts)))) p in
            omega (arith, is, now, h)
        | inr p ↦
            let rest = none_higher u w ts b (ap (λ c. cond c (Some (node v r es ts)) (group_among u ts)) (sym p) ∙ e) h in
            let now = ap (λ c. height (cond c w (node v r es (changed_in u (λ x. w) ts)))) p in
            omega (arith, rest, now)
      ]

  none_higher : (u : NodeId) (w : Tree) (ts : Trees) (b : Tree) → group_among u ts ≡ Some b → height w ≤ height b → height_all (changed_in u (λ x. w) ts) ≤ height_all ts
  none_higher u w none b e h = omega arith
  none_higher u w (beside t ts) b e h =
      elim (decide (has_group u t)) [
        | inl p ↦
            let rest = no_higher u w t b (ap (λ c. cond c (group_with u t) (group_among u ts)) (sym p) ∙ e) h in
            let now = ap (λ c. height_all (cond c (beside (changed_at u (λ x. w) t) ts) (beside t (changed_in u (λ x. w) ts)))) p in
            omega (arith, rest, now)
        | inr p ↦
            let rest = none_higher u w ts b (ap (λ c. cond c (group_with u t) (group_among u ts)) (sym p) ∙ e) h in
            let now = ap (λ c. height_all (cond c (beside (changed_at u (λ x. w) t) ts) (beside t (changed_in u (λ x. w) ts)))) p in
            omega (arith, rest, now)
      ]

-- ---- a group that is there is found

mutual
  pub found_group : (u : NodeId) (t : Tree) → has_group u t ≡ true → (b : Tree) × (group_with u t ≡ Some b)
  found_group u (node v r es ts) h =
      elim (decide (is_id v u)) [
        | inl p ↦ (node v r es ts, ap (λ c. cond c (Some (node v r es ts)) (group_among u ts)) p)
        | inr p ↦
            let f = found_groups u ts (ap (λ c. c || have_group u ts) (sym p) ∙ h) in
            (f.0, ap (λ c. cond c (Some (node v r es ts)) (group_among u ts)) p ∙ f.1)
      ]

  found_groups : (u : NodeId) (ts : Trees) → have_group u ts ≡ true → (b : Tree) × (group_among u ts ≡ Some b)
  found_groups u none h = apart false h refl
  found_groups u (beside t ts) h =
      elim (decide (has_group u t)) [
        | inl p ↦
            let f = found_group u t p in
            (f.0, ap (λ c. cond c (group_with u t) (group_among u ts)) p ∙ f.1)
        | inr p ↦
            let f = found_groups u ts (ap (λ c. c || have_group u ts) (sym p) ∙ h) in
            (f.0, ap (λ c. cond c (group_with u t) (group_among u ts)) p ∙ f.1)
      ]
