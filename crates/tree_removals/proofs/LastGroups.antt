-- A group put after the others of the root.
use Rattle.std.proofs.Common.{◌≡◌, ◌≤◌, true, false, cond, inl, inr, ◌++◌, option_and_then, Option, None, Some, IsSome, subst, refl, sym, ap, ◌∙◌, arith}
use Rattle.vault_model.specs.Db.{NodeId}
use Rattle.vault_model.specs.Join.{is_id}
use Rattle.vault_model.specs.Tree.{Tree, Trees, beside, id_of, is_elsewhere, node, node_ids, node_ids_all, none}
use Rattle.vault_model.proofs.Ids.{is_same_id}
use Rattle.vault_model.proofs.Tests.{apart, decide, is_false, or_false, or_left, or_right}
use Rattle.tree_core.proofs.Around.{found_group, found_id, ids_rows, rows_change}
use Rattle.tree_core.proofs.Changed.{absent_group}
use Rattle.tree_core.proofs.Counted.{elsewhere_occurs, occurs, occurs-append, one_if}
use Rattle.tree_core.proofs.Ways.{below, first, here, later}
use Rattle.tree_core.specs.Changes.{changed_at, changed_in, entry_at, group_among, group_with, has_group, have_group, own_entry, with_group, with_last}

-- ---- the root

pub has_root : (u : NodeId) (w : Tree) → id_of w ≡ u → has_group u w ≡ true
has_root u (node v r es ts) is = or_left (is_id v u) (have_group u ts) (is_same_id v u is)

pub at_root : (u : NodeId) (f : Tree → Tree) (w : Tree) → id_of w ≡ u → changed_at u f w ≡ f w
at_root u f (node v r es ts) is = here u f v r es ts (is_same_id v u is)

-- ---- the last group of the root

changed_last : (u : NodeId) (f : Tree → Tree) (w : Tree) (ts : Trees) → id_of w ≡ u → have_group u ts ≡ false → changed_in u f (with_last w ts) ≡ with_last (f w) ts
changed_last u f w none is off = first u f w none (has_root u w is) ∙ ap (λ x. beside x none) (at_root u f w is)
changed_last u f w (beside t ts) is off =
    let both = or_false (has_group u t) (have_group u ts) off in
    later u f t (with_last w ts) both.0 ∙ ap (λ xs. beside t xs) (changed_last u f w ts is both.1)

-- a group that is put in and then changed is the changed group put in
pub put_in_last : (u : NodeId) (f : Tree → Tree) (w t : Tree) → id_of w ≡ u → has_group u t ≡ false → changed_at u f (changed_at (id_of t) (with_group w) t) ≡ changed_at (id_of t) (with_group (f w)) t
put_in_last u f w (node v r es ts) is off =
    let both = or_false (is_id v u) (have_group u ts) off in
    ap (changed_at u f) (at_root v (with_group w) (node v r es ts) refl)
    ∙ below u f v r es (with_last w ts) both.0
    ∙ ap (λ xs. node v r es xs) (changed_last u f w ts is both.1)
    ∙ sym (at_root v (with_group (f w)) (node v r es ts) refl)

have_last : (u : NodeId) (w : Tree) (ts : Trees) → id_of w ≡ u → have_group u (with_last w ts) ≡ true
have_last u w none is = or_left (has_group u w) false (has_root u w is)
have_last u w (beside t ts) is = or_right (has_group u t) (have_group u (with_last w ts)) (have_last u w ts is)

pub last_there : (u : NodeId) (w t : Tree) → id_of w ≡ u → has_group u (changed_at (id_of t) (with_group w) t) ≡ true
last_there u w (node v r es ts) is = ap (has_group u) (at_root v (with_group w) (node v r es ts) refl) ∙ or_right (is_id v u) (have_group u (with_last w ts)) (have_last u w ts is)

pub among_last : (g : NodeId) (w : Tree) (ts : Trees) → has_group g w ≡ false → group_among g (with_last w ts) ≡ group_among g ts
among_last g w none off = ap (λ c. cond c (group_with g w) None) off
among_last g w (beside t ts) off = ap (λ o. cond (has_group g t) (group_with g t) o) (among_last g w ts off)

-- the entries of the other groups are found as before
pub entry_with_last : (g u : NodeId) (w t : Tree) → has_group g w ≡ false → entry_at g u (changed_at (id_of t) (with_group w) t) ≡ entry_at g u t
entry_with_last g u w (node v r es ts) off =
    ap (entry_at g u) (at_root v (with_group w) (node v r es ts) refl)
    ∙ elim (decide (is_id v g)) [
      | inl p ↦
          ap (λ c. option_and_then (own_entry u) (cond c (Some (node v r es (with_last w ts))) (group_among g (with_last w ts)))) p
          ∙ sym (ap (λ c. option_and_then (own_entry u) (cond c (Some (node v r es ts)) (group_among g ts))) p)
      | inr p ↦
          ap (λ c. option_and_then (own_entry u) (cond c (Some (node v r es (with_last w ts))) (group_among g (with_last w ts)))) p
          ∙ ap (option_and_then (own_entry u)) (among_last g w ts off)
          ∙ sym (ap (λ c. option_and_then (own_entry u) (cond c (Some (node v r es ts)) (group_among g ts))) p)
    ]

-- ---- groups that are there, and that are not

pub holds_there : (g u : NodeId) (t : Tree) → IsSome (entry_at g u t) → has_group g t ≡ true
holds_there g u t some = elim (decide (has_group g t)) [
  | inl p ↦ p
  | inr p ↦ apart false (subst (λ (o : Option Tree). IsSome (option_and_then (own_entry u) o)) (absent_group g t p) some) refl
]

root_counts : (u : NodeId) (b : Tree) → id_of b ≡ u → 1 ≤ occurs u (node_ids b)
root_counts u (node v r es ts) is = let one = ap one_if (is_same_id u v (sym is)) in omega (arith, one)

-- a group of an id that no node has is not there
pub elsewhere_absent : (u : NodeId) (t : Tree) → is_elsewhere t u ≡ true → has_group u t ≡ false
elsewhere_absent u t off = is_false (has_group u t) (λ has.
    let f = found_group u t has in
    let rows = rows_change node_ids node_ids_all ids_rows u (λ x. x) t f.0 f.1 (found_id u t f.0 f.1) in
    let split = ap (occurs u) rows.was ∙ occurs-append u rows.front (node_ids f.0 ++ rows.back) in
    let split2 = occurs-append u (node_ids f.0) rows.back in
    let one = root_counts u f.0 (found_id u t f.0 f.1) in
    let zero = elsewhere_occurs t u off in
    absurd (omega (arith, split, split2, one, zero)))
