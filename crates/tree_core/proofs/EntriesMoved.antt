-- Changes of the entries of two groups, one after the other.
use Rattle.std.proofs.Common.{◌≡◌, ◌≢◌, ℕ, Bool, true, false, not, cond, ◌&&◌, ◌||◌, inl, inr, option_and_then, IfSome, IsSome, MatchResult, Result, Ok, Err, List, ◌∷◌, ◌++◌, Option, Some, refl, sym, ap, subst, ◌∙◌, arith}
use Rattle.vault_model.specs.Db.{NodeId, nil_id}
use Rattle.vault_model.specs.Join.{is_id}
use Rattle.vault_model.specs.Shape.{EntryRecord}
use Rattle.std.specs.List.{list_all}
use Rattle.vault_model.specs.declared.nodes.Tombstone.{Tombstone}
use Rattle.vault_model.specs.Tree.{BareDoc, IsDoc, Tree, Trees, beside, entry_rows, entry_rows_all, is_elsewhere, is_proper_entry, node, node_ids, none}
use Rattle.vault_model.proofs.Ids.{same_id}
use Rattle.vault_model.proofs.Tests.{and_both, and_true, decide, is_false, not_false, some_of}
use Rattle.tree_core.specs.Changes.{changed_at, changed_in, entry_at, entry_moved, group_among, group_with, has_group, have_group, is_free, moved_entry, on_entries, own_entry, with_entry, without, without_entry}
use Rattle.tree_core.proofs.Added.{added_is_doc}
use Rattle.tree_core.proofs.Around.{entries_rows, found_group, found_id, rows_change}
use Rattle.tree_core.proofs.EntriesRemoved.{found_at, gone, own_id, removed_is_doc, split, untombed, was_once}
use Rattle.tree_core.proofs.Ways.{below, first, here, later}
use Rattle.tree_core.proofs.Counted.{all_front, elsewhere_occurs, occurs}

-- an entry as it is in the group that it is moved to
abbrev pub placed_at : NodeId → ℕ → NodeId × EntryRecord → NodeId × EntryRecord
placed_at from time e = (e.0, moved_entry from time e.1)

abbrev Entries : Type 0
Entries = List (NodeId × EntryRecord)

-- ---- the same groups are there

mutual
  pub same_there : (w u : NodeId) (k : Entries → Entries) (t : Tree) → has_group w (changed_at u (on_entries k) t) ≡ has_group w t
  same_there w u k (node v r es ts) =
      elim (decide (is_id v u)) [
        | inl p ↦ ap (has_group w) (here u (on_entries k) v r es ts p)
        | inr p ↦ ap (has_group w) (below u (on_entries k) v r es ts p) ∙ ap (λ b. is_id v w || b) (all_there w u k ts)
      ]

  pub all_there : (w u : NodeId) (k : Entries → Entries) (ts : Trees) → have_group w (changed_in u (on_entries k) ts) ≡ have_group w ts
  all_there w u k none = refl
  all_there w u k (beside t ts) =
      elim (decide (has_group u t)) [
        | inl p ↦ ap (have_group w) (first u (on_entries k) t ts p) ∙ ap (λ b. b || have_group w ts) (same_there w u k t)
        | inr p ↦ ap (have_group w) (later u (on_entries k) t ts p) ∙ ap (λ b. has_group w t || b) (all_there w u k ts)
      ]

-- ---- changes of two groups may be made in either order

module _ (g h : NodeId) (k l : Entries → Entries) (other : g ≢ h) where
  abbrev kk : Tree → Tree
  kk = on_entries k

  abbrev ll : Tree → Tree
  ll = on_entries l

  mutual
    pub either_order : (t : Tree) → changed_at g kk (changed_at h ll t) ≡ changed_at h ll (changed_at g kk t)
    either_order (node v r es ts) =
        elim (decide (is_id v g)) [
          | inl p ↦ elim (decide (is_id v h)) [
            | inl q ↦ absurd (other (sym (same_id v g p) ∙ same_id v h q))
            | inr q ↦
                ap (changed_at g kk) (below h ll v r es ts q) ∙ here g kk v r es (changed_in h ll ts) p
                ∙ sym (ap (changed_at h ll) (here g kk v r es ts p) ∙ below h ll v r (k es) ts q)
          ]
          | inr p ↦ elim (decide (is_id v h)) [
            | inl q ↦
                ap (changed_at g kk) (here h ll v r es ts q) ∙ below g kk v r (l es) ts p
                ∙ sym (ap (changed_at h ll) (below g kk v r es ts p) ∙ here h ll v r es (changed_in g kk ts) q)
            | inr q ↦
                ap (changed_at g kk) (below h ll v r es ts q) ∙ below g kk v r es (changed_in h ll ts) p
                ∙ ap (λ xs. node v r es xs) (either_orders ts)
                ∙ sym (ap (changed_at h ll) (below g kk v r es ts p) ∙ below h ll v r es (changed_in g kk ts) q)
          ]
        ]

    pub either_orders : (ts : Trees) → changed_in g kk (changed_in h ll ts) ≡ changed_in h ll (changed_in g kk ts)
    either_orders none = refl
    either_orders (beside t ts) =
        elim (decide (has_group g t)) [
          | inl p ↦ elim (decide (has_group h t)) [
            | inl q ↦
                ap (changed_in g kk) (first h ll t ts q) ∙ first g kk (changed_at h ll t) ts (same_there g h l t ∙ p)
                ∙ ap (λ x. beside x ts) (either_order t)
                ∙ sym (ap (changed_in h ll) (first g kk t ts p) ∙ first h ll (changed_at g kk t) ts (same_there h g k t ∙ q))
            | inr q ↦
                ap (changed_in g kk) (later h ll t ts q) ∙ first g kk t (changed_in h ll ts) p
                ∙ sym (ap (changed_in h ll) (first g kk t ts p) ∙ later h ll (changed_at g kk t) ts (same_there h g k t ∙ q))
          ]
          | inr p ↦ elim (decide (has_group h t)) [
            | inl q ↦
                ap (changed_in g kk) (first h ll t ts q) ∙ later g kk (changed_at h ll t) ts (same_there g h l t ∙ p)
                ∙ sym (ap (changed_in h ll) (later g kk t ts p) ∙ first h ll t (changed_in g kk ts) q)
            | inr q ↦
                ap (changed_in g kk) (later h ll t ts q) ∙ later g kk t (changed_in h ll ts) p
                ∙ ap (λ xs. beside t xs) (either_orders ts)
                ∙ sym (ap (changed_in h ll) (later g kk t ts p) ∙ later h ll t (changed_in g kk ts) q)
          ]
        ]

-- ---- two changes of one group are one

module _ (g : NodeId) (k l : Entries → Entries) where
  mutual
    pub at_once : (t : Tree) → changed_at g (on_entries k) (changed_at g (on_entries l) t) ≡ changed_at g (on_entries (λ es. k (l es))) t
    at_once (node v r es ts) =
        elim (decide (is_id v g)) [
          | inl p ↦
              ap (changed_at g (on_entries k)) (here g (on_entries l) v r es ts p) ∙ here g (on_entries k) v r (l es) ts p
              ∙ sym (here g (on_entries (λ xs. k (l xs))) v r es ts p)
          | inr p ↦
              ap (changed_at g (on_entries k)) (below g (on_entries l) v r es ts p) ∙ below g (on_entries k) v r es (changed_in g (on_entries l) ts) p
              ∙ ap (λ xs. node v r es xs) (all_at_once ts)
              ∙ sym (below g (on_entries (λ xs. k (l xs))) v r es ts p)
        ]

    pub all_at_once : (ts : Trees) → changed_in g (on_entries k) (changed_in g (on_entries l) ts) ≡ changed_in g (on_entries (λ es. k (l es))) ts
    all_at_once none = refl
    all_at_once (beside t ts) =
        elim (decide (has_group g t)) [
          | inl p ↦
              ap (changed_in g (on_entries k)) (first g (on_entries l) t ts p)
              ∙ first g (on_entries k) (changed_at g (on_entries l) t) ts (same_there g g l t ∙ p)
              ∙ ap (λ x. beside x ts) (at_once t)
              ∙ sym (first g (on_entries (λ xs. k (l xs))) t ts p)
          | inr p ↦
              ap (changed_in g (on_entries k)) (later g (on_entries l) t ts p)
              ∙ later g (on_entries k) t (changed_in g (on_entries l) ts) p
              ∙ ap (λ xs. beside t xs) (all_at_once ts)
              ∙ sym (later g (on_entries (λ xs. k (l xs))) t ts p)
        ]

-- ---- an entry of another group is found as before

by_there : (u : NodeId) (b : Bool) (x y z w : Option Tree) → option_and_then (own_entry u) x ≡ option_and_then (own_entry u) y → option_and_then (own_entry u) z ≡ option_and_then (own_entry u) w
    → option_and_then (own_entry u) (cond b x z) ≡ option_and_then (own_entry u) (cond b y w)
by_there u true x y z w p q = p
by_there u false x y z w p q = q

module _ (g h u : NodeId) (l : Entries → Entries) (other : g ≢ h) where
  mutual
    pub still_at : (t : Tree) → entry_at g u (changed_at h (on_entries l) t) ≡ entry_at g u t
    still_at (node v r es ts) =
        elim (decide (is_id v h)) [
          | inl q ↦
              let off : is_id v g ≡ false = is_false (is_id v g) (λ p. other (sym (same_id v g p) ∙ same_id v h q)) in
              ap (λ t. entry_at g u t) (here h (on_entries l) v r es ts q)
              ∙ ap (λ b. option_and_then (own_entry u) (cond b (Some (node v r (l es) ts)) (group_among g ts))) off
              ∙ sym (ap (λ b. option_and_then (own_entry u) (cond b (Some (node v r es ts)) (group_among g ts))) off)
          | inr q ↦
              ap (λ t. entry_at g u t) (below h (on_entries l) v r es ts q) ∙ elim (decide (is_id v g)) [
                | inl p ↦
                    ap (λ b. option_and_then (own_entry u) (cond b (Some (node v r es (changed_in h (on_entries l) ts))) (group_among g (changed_in h (on_entries l) ts)))) p
                    ∙ sym (ap (λ b. option_and_then (own_entry u) (cond b (Some (node v r es ts)) (group_among g ts))) p)
                | inr p ↦
                    ap (λ b. option_and_then (own_entry u) (cond b (Some (node v r es (changed_in h (on_entries l) ts))) (group_among g (changed_in h (on_entries l) ts)))) p
                    ∙ still_among ts
                    ∙ sym (ap (λ b. option_and_then (own_entry u) (cond b (Some (node v r es ts)) (group_among g ts))) p)
              ]
        ]

    still_among : (ts : Trees) → option_and_then (own_entry u) (group_among g (changed_in h (on_entries l) ts)) ≡ option_and_then (own_entry u) (group_among g ts)
    still_among none = refl
    still_among (beside t ts) =
        elim (decide (has_group h t)) [
          | inl q ↦
              ap (λ xs. option_and_then (own_entry u) (group_among g xs)) (first h (on_entries l) t ts q)
              ∙ ap (λ b. option_and_then (own_entry u) (cond b (group_with g (changed_at h (on_entries l) t)) (group_among g ts))) (same_there g h l t)
              ∙ by_there u (has_group g t) (group_with g (changed_at h (on_entries l) t)) (group_with g t) (group_among g ts) (group_among g ts) (still_at t) refl
          | inr q ↦
              ap (λ xs. option_and_then (own_entry u) (group_among g xs)) (later h (on_entries l) t ts q)
              ∙ by_there u (has_group g t) (group_with g t) (group_with g t) (group_among g (changed_in h (on_entries l) ts)) (group_among g ts) refl (still_among ts)
        ]

-- ---- the document

own_proper : (u : NodeId) (t : Tree) (e : NodeId × EntryRecord) → own_entry u t ≡ Some e → list_all (λ (r : NodeId × EntryRecord). is_proper_entry r.1) (entry_rows t) ≡ true → is_proper_entry e.1 ≡ true
own_proper u (node v r es ts) e h all =
    let s = split u e es h in
    let parts = all_front (λ (r : NodeId × EntryRecord). is_proper_entry r.1) es (entry_rows_all ts) all in
    let own = all_front (λ (r : NodeId × EntryRecord). is_proper_entry r.1) s.front (e ∷ s.back) (ap (list_all (λ (r : NodeId × EntryRecord). is_proper_entry r.1)) (sym s.was) ∙ parts.0) in
    (and_true (is_proper_entry e.1) (list_all (λ (r : NodeId × EntryRecord). is_proper_entry r.1) s.back) own.1).0

-- The goal of a move once the entry is taken out, and that the entry may be put there.
pub record Ready (taken : BareDoc) (to : NodeId) (e : NodeId × EntryRecord) : Type 0 where
  pub goal : Tree
  pub there : group_with to taken.tree ≡ Some goal
  pub free : is_free e.0 taken ≡ true
  pub proper : is_proper_entry e.1 ≡ true

pub move_ready : (d : BareDoc) → IsDoc d → (from to u : NodeId) (e : NodeId × EntryRecord) → has_group to d.tree ≡ true → entry_at from u d.tree ≡ Some e
    → Ready (record d { tree = changed_at from (without_entry u) d.tree }) to e
move_ready d is from to u e has there =
    let f = found_at from u d.tree e there in
    let taken : BareDoc = record d { tree = changed_at from (without_entry u) d.tree } in
    let goal = found_group to taken.tree (same_there to from (without u) d.tree ∙ has) in
    let one = was_once d is from u e f.0 f.1.0 f.1.1 in
    let zero = elsewhere_occurs d.tree nil_id is.no_nil in
    let not_nil : not (is_id nil_id e.0) ≡ true = not_false (is_id nil_id e.0) (is_false (is_id nil_id e.0) (λ p.
    let same = ap (λ v. occurs v (node_ids d.tree)) (same_id nil_id e.0 p) in absurd (omega (arith, one, zero, same)))) in
    let row = rows_change entry_rows entry_rows_all entries_rows from (λ x. x) d.tree f.0 f.1.0 (found_id from d.tree f.0 f.1.0) in
    let all = all_front (λ (r : NodeId × EntryRecord). is_proper_entry r.1) row.front (entry_rows f.0 ++ row.back) (ap (list_all (λ (r : NodeId × EntryRecord). is_proper_entry r.1)) (sym row.was) ∙ is.entries_proper) in
    let own = all_front (λ (r : NodeId × EntryRecord). is_proper_entry r.1) (entry_rows f.0) row.back all.1 in
    record {
      goal = goal.0;
      there = goal.1;
      free = and_both (not (is_id nil_id e.0) && is_elsewhere taken.tree e.0) (list_all (λ (t : Tombstone). not (is_id t.id e.0)) d.tombs)
          (and_both (not (is_id nil_id e.0)) (is_elsewhere taken.tree e.0) not_nil (gone d is from u e f.0 f.1.0 f.1.1)) (untombed d is from u e f.0 f.1.0 f.1.1);
      proper = own_proper u f.0 e f.1.1 own.0;
    }

pub moved_is_doc : (d : BareDoc) → IsDoc d → (from to u : NodeId) (time : ℕ) (e : NodeId × EntryRecord) → has_group to d.tree ≡ true → entry_at from u d.tree ≡ Some e
    → IsDoc (record d { tree = entry_moved from to time e d.tree })
moved_is_doc d is from to u time e has there =
    let f = found_at from u d.tree e there in
    let ready = move_ready d is from to u e has there in
    subst (λ (v : NodeId). IsDoc (record d { tree = changed_at to (with_entry (placed_at from time e)) (changed_at from (without_entry v) d.tree) })) (sym (own_id u f.0 e f.1.1))
    (added_is_doc (record d { tree = changed_at from (without_entry u) d.tree }) (removed_is_doc d is from u e f.0 f.1.0 f.1.1) to (placed_at from time e) ready.goal ready.there ready.free ready.proper)

-- what a move leaves, whatever was answered
pub move_is_doc : {E : Type 0} (d : BareDoc) → IsDoc d → (from to u : NodeId) (time : ℕ) (new : Tree) (result : Result (Unit {0}) E) → has_group to d.tree ≡ true → IsSome (entry_at from u d.tree)
    → MatchResult result (λ _. IfSome (entry_at from u d.tree) (λ e. new ≡ entry_moved from to time e d.tree)) (λ _. new ≡ d.tree) → IsDoc (record d { tree = new })
move_is_doc d is from to u time new (Err e) has some h = subst (λ (t : Tree). IsDoc (record d { tree = t })) (sym h) is
move_is_doc d is from to u time new (Ok x) has some h =
    let e = some_of (entry_at from u d.tree) some in
    subst (λ (t : Tree). IsDoc (record d { tree = t })) (sym (subst (λ (o : Option (NodeId × EntryRecord)). IfSome o (λ y. new ≡ entry_moved from to time y d.tree)) e.1 h)) (moved_is_doc d is from to u time e.0 has e.1)
