-- The rows of a group without one of its groups.
use Rattle.std.proofs.Common.{◌≡◌, ◌≤◌, ◌||◌, ◌++◌, ◌+◌, ℕ, zero, suc, true, false, cond, inl, inr, List, [], ◌∷◌, Some, None, refl, sym, ap, ◌∙◌, arith}
use Rattle.std.proofs.lemmas.Option.{same_Some}
use Rattle.std.specs.FinMap.{find}
use Rattle.vault_model.specs.Db.{NodeId, id_cmp}
use Rattle.vault_model.specs.Join.{is_id}
use Rattle.vault_model.specs.Tree.{BareDoc, IsDoc, Tree, Trees, beside, child_rows, child_rows_all, entry_rows, entry_rows_all, group_rows, group_rows_all, id_of, ids_of, is_elsewhere, node, node_ids, none}
use Rattle.vault_model.proofs.Ids.{same_id}
use Rattle.vault_model.proofs.Tests.{apart, decide, not_false, or_false}
use Rattle.tree_core.specs.Changes.{but_group, changed_at, child_with, group_with, own_group, without_group}
use Rattle.tree_core.specs.Finding.{or_else}
use Rattle.tree_core.proofs.Around.{AreRows, children_rows, entries_rows, found_id, groups_rows, ids_rows, occurs_change, rows_change}
use Rattle.tree_core.proofs.Counted.{elsewhere_occurs, none_occurs, occurs, occurs_elsewhere, once}
use Rattle.tree_core.proofs.GroupDocs.{take_counts}
use Rattle.tree_core.proofs.Options.{never}
use Rattle.tree_core.proofs.Rows.{child_keys, keys, none_found}
use Rattle.growth_laws.proofs.Steps.{take_group_root}
use Rattle.group_frame_laws.specs.Groups.{is_within}
use Rattle.frame_laws.proofs.Finds.{SameRows, find_append, find_back, own_lists, passed}
use Rattle.frame_laws.proofs.NewFrames.{elsewhere_entry, elsewhere_group}

-- ---- groups side by side without one of them

module _ {X : Type 0} (rows : Tree → List (NodeId × X)) (rows_all : Trees → List (NodeId × X)) (are : AreRows rows rows_all) (u : NodeId) (c : Tree) (q : NodeId) (off : find id_cmp q (rows c) ≡ None) where
  find_but : (ts : Trees) → own_group u ts ≡ Some c → find id_cmp q (rows_all (but_group u ts)) ≡ find id_cmp q (rows_all ts)
  find_but none own = never c own
  find_but (beside t ts) own =
      elim (decide (is_id (id_of t) u)) [
        | inl p ↦
            let same : t ≡ c = same_Some t c (ap (λ b. cond b (Some t) (own_group u ts)) (sym p) ∙ own) in
            ap (λ b. find id_cmp q (rows_all (cond b ts (beside t (but_group u ts))))) p
            ∙ sym (ap (find id_cmp q) (are.at_beside t ts) ∙ find_append q (rows t) (rows_all ts) ∙ ap (λ o. or_else o (find id_cmp q (rows_all ts))) (ap (λ w. find id_cmp q (rows w)) same ∙ off))
        | inr p ↦
            let rest = ap (λ b. cond b (Some t) (own_group u ts)) (sym p) ∙ own in
            ap (λ b. find id_cmp q (rows_all (cond b ts (beside t (but_group u ts))))) p
            ∙ ap (find id_cmp q) (are.at_beside t (but_group u ts)) ∙ find_back q (rows t) (rows_all (but_group u ts)) (rows_all ts) (find_but ts rest) ∙ sym (ap (find id_cmp q) (are.at_beside t ts))
      ]

record IdsSplit (u : NodeId) (ts : Trees) : Type 0 where
  front : List NodeId
  back : List NodeId
  was : ids_of ts ≡ front ++ u ∷ back
  now : ids_of (but_group u ts) ≡ front ++ back

ids_split : (u : NodeId) (c : Tree) (ts : Trees) → own_group u ts ≡ Some c → IdsSplit u ts
ids_split u c none own = never c own
ids_split u c (beside t ts) own =
    elim (decide (is_id (id_of t) u)) [
      | inl p ↦ record {
        front = [];
        back = ids_of ts;
        was = ap (λ v. v ∷ ids_of ts) (same_id (id_of t) u p);
        now = ap (λ b. ids_of (cond b ts (beside t (but_group u ts)))) p;
      }
      | inr p ↦
          let rest = ids_split u c ts (ap (λ b. cond b (Some t) (own_group u ts)) (sym p) ∙ own) in
          record {
            front = id_of t ∷ rest.front;
            back = rest.back;
            was = ap (λ us. id_of t ∷ us) rest.was;
            now = ap (λ b. ids_of (cond b ts (beside t (but_group u ts)))) p ∙ ap (λ us. id_of t ∷ us) rest.now;
          }
    ]

pub elsewhere_lists : (q : NodeId) (t : Tree) → is_elsewhere t q ≡ true → find id_cmp q (child_rows t) ≡ None
elsewhere_lists q t off = none_found q (child_rows t) (let all = child_keys q t in let none = elsewhere_occurs t q off in omega (arith, all, none))

pub outside : (c : Tree) (q : NodeId) → is_within c q ≡ false → is_elsewhere c q ≡ true
outside c q p = not_false (is_within c q) p

pub take_group_same : (u : NodeId) (c b : Tree) → child_with u b ≡ Some c → SameRows (is_within c) (is_within c) (λ q. is_within c q || is_id q (id_of b)) b (without_group u b)
take_group_same u c (node v r es ts) own = record {
  entries = λ q p. find_back q es (entry_rows_all (but_group u ts)) (entry_rows_all ts) (find_but entry_rows entry_rows_all entries_rows u c q (elsewhere_entry q c (outside c q p)) ts own);
  groups = λ q p. find_back q ((v, r) ∷ []) (group_rows_all (but_group u ts)) (group_rows_all ts) (find_but group_rows group_rows_all groups_rows u c q (elsewhere_group q c (outside c q p)) ts own);
  lists = λ q p.
      let parts = or_false (is_within c q) (is_id q v) p in
      passed q (v, record { entries = keys es; groups = ids_of (but_group u ts) }) (child_rows_all (but_group u ts)) parts.1
      ∙ find_but child_rows child_rows_all children_rows u c q (elsewhere_lists q c (outside c q parts.0)) ts own
      ∙ sym (passed q (v, record { entries = keys es; groups = ids_of ts }) (child_rows_all ts) parts.1);
  root = refl;
}

pub record Lost (u : NodeId) (b : Tree) : Type 0 where
  pub front : List NodeId
  pub back : List NodeId
  pub entries : List NodeId
  pub was : own_lists b ≡ record { entries = entries; groups = front ++ u ∷ back }
  pub now : own_lists (without_group u b) ≡ record { entries = entries; groups = front ++ back }

pub lost_lists : (u : NodeId) (c b : Tree) → child_with u b ≡ Some c → Lost u b
lost_lists u c (node v r es ts) own =
    let s = ids_split u c ts own in
    record {
      front = s.front;
      back = s.back;
      entries = keys es;
      was = ap (λ (us : List NodeId). record { entries = keys es; groups = us }) s.was;
      now = ap (λ (us : List NodeId). record { entries = keys es; groups = us }) s.now;
    }

-- ---- what is gone

pub positive : (n : ℕ) → (n ≡ 0 → ⊥) → 1 ≤ n
positive zero f = absurd (f refl)
positive (suc n) f = omega arith

pub gone : (d : BareDoc) → IsDoc d → (g : NodeId) (b c : Tree) → group_with g d.tree ≡ Some b → child_with (id_of c) b ≡ Some c → (q : NodeId) → is_within c q ≡ true
    → is_elsewhere (changed_at g (without_group (id_of c)) d.tree) q ≡ true
gone d isd g b c there own q inside =
    let u = id_of c in
    let t = changed_at g (without_group u) d.tree in
    let change = occurs_change q d.tree t b (without_group u b) (rows_change node_ids _ ids_rows g (without_group u) d.tree b there (take_group_root u b ∙ found_id g d.tree b there)) in
    let less = take_counts q u c b own in
    let most = once (node_ids d.tree) isd.distinct q in
    let some = positive (occurs q (node_ids c)) (λ e. apart (is_within c q) inside (none_occurs q (node_ids c) e)) in
    occurs_elsewhere t q (omega (arith, change, less, most, some))
