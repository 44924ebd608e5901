-- One group of a tree changed: where it is not there, by a function of the group, and not at all.
use Rattle.std.proofs.Common.{◌≡◌, false, cond, inl, inr, Some, None, refl, sym, ap, ◌∙◌}
use Rattle.std.proofs.lemmas.Option.{same_Some}
use Rattle.vault_model.specs.Db.{NodeId}
use Rattle.vault_model.specs.Join.{is_id}
use Rattle.vault_model.specs.Tree.{Tree, Trees, beside, node, none}
use Rattle.vault_model.proofs.Tests.{decide, or_false}
use Rattle.tree_core.specs.Changes.{changed_at, changed_in, group_among, group_with, has_group, have_group}

-- ---- a group that is not there

mutual
  pub absent_group : (u : NodeId) (t : Tree) → has_group u t ≡ false → group_with u t ≡ None
  absent_group u (node v r es ts) e =
      let both = or_false (is_id v u) (have_group u ts) e in
      ap (λ b. cond b (Some (node v r es ts)) (group_among u ts)) both.0 ∙ absent_groups u ts both.1

  absent_groups : (u : NodeId) (ts : Trees) → have_group u ts ≡ false → group_among u ts ≡ None
  absent_groups u none e = refl
  absent_groups u (beside t ts) e =
      let both = or_false (has_group u t) (have_group u ts) e in
      ap (λ b. cond b (group_with u t) (group_among u ts)) both.0 ∙ absent_groups u ts both.1

-- nothing is changed where the group is not there
mutual
  pub changed_off : (u : NodeId) (f : Tree → Tree) (t : Tree) → has_group u t ≡ false → changed_at u f t ≡ t
  changed_off u f (node v r es ts) e =
      let both = or_false (is_id v u) (have_group u ts) e in
      ap (λ b. cond b (f (node v r es ts)) (node v r es (changed_in u f ts))) both.0 ∙ ap (λ xs. node v r es xs) (changed_all_off u f ts both.1)

  changed_all_off : (u : NodeId) (f : Tree → Tree) (ts : Trees) → have_group u ts ≡ false → changed_in u f ts ≡ ts
  changed_all_off u f none e = refl
  changed_all_off u f (beside t ts) e =
      let both = or_false (has_group u t) (have_group u ts) e in
      ap (λ b. cond b (beside (changed_at u f t) ts) (beside t (changed_in u f ts))) both.0 ∙ ap (λ xs. beside t xs) (changed_all_off u f ts both.1)

-- ---- a function of the group

mutual
  pub changed_by : (u : NodeId) (f : Tree → Tree) (t b : Tree) → group_with u t ≡ Some b → changed_at u (λ x. f b) t ≡ changed_at u f t
  changed_by u f (node v r es ts) b e =
      elim (decide (is_id v u)) [
        | inl p ↦
            let is : node v r es ts ≡ b = same_Some (node v r es ts) b (ap (λ c. cond c (Some (node v r es ts)) (group_among u ts)) (sym p) ∙ e) in
            ap (λ c. cond c (f b) (node v r es (changed_in u (λ x. f b) ts))) p
            ∙ ap f (sym is)
            ∙ ap (λ c. cond c (f (node v r es ts)) (node v r es (changed_in u f ts))) (sym p)
        | inr p ↦
            ap (λ c. cond c (f b) (node v r es (changed_in u (λ x. f b) ts))) p
            ∙ ap (λ xs. node v r es xs) (changed_by_all u f ts b (ap (λ c. cond c (Some (node v r es ts)) (group_among u ts)) (sym p) ∙ e))
            ∙ ap (λ c. cond c (f (node v r es ts)) (node v r es (changed_in u f ts))) (sym p)
      ]

  changed_by_all : (u : NodeId) (f : Tree → Tree) (ts : Trees) (b : Tree) → group_among u ts ≡ Some b → changed_in u (λ x. f b) ts ≡ changed_in u f ts
  changed_by_all u f none b e = refl
  changed_by_all u f (beside t ts) b e =
      elim (decide (has_group u t)) [
        | inl p ↦
            ap (λ c. cond c (beside (changed_at u (λ x. f b) t) ts) (beside t (changed_in u (λ x. f b) ts))) p
            ∙ ap (λ x. beside x ts) (changed_by u f t b (ap (λ c. cond c (group_with u t) (group_among u ts)) (sym p) ∙ e))
            ∙ ap (λ c. cond c (beside (changed_at u f t) ts) (beside t (changed_in u f ts))) (sym p)
        | inr p ↦
            ap (λ c. cond c (beside (changed_at u (λ x. f b) t) ts) (beside t (changed_in u (λ x. f b) ts))) p
            ∙ ap (λ xs. beside t xs) (changed_by_all u f ts b (ap (λ c. cond c (group_with u t) (group_among u ts)) (sym p) ∙ e))
            ∙ ap (λ c. cond c (beside (changed_at u f t) ts) (beside t (changed_in u f ts))) (sym p)
      ]

mutual
  pub changed_not : (u : NodeId) (t : Tree) → changed_at u (λ x. x) t ≡ t
  changed_not u (node v r es ts) =
      elim (decide (is_id v u)) [
        | inl p ↦ ap (λ c. cond c (node v r es ts) (node v r es (changed_in u (λ x. x) ts))) p
        | inr p ↦ ap (λ c. cond c (node v r es ts) (node v r es (changed_in u (λ x. x) ts))) p ∙ ap (λ xs. node v r es xs) (changed_none u ts)
      ]

  changed_none : (u : NodeId) (ts : Trees) → changed_in u (λ x. x) ts ≡ ts
  changed_none u none = refl
  changed_none u (beside t ts) =
      elim (decide (has_group u t)) [
        | inl p ↦ ap (λ c. cond c (beside (changed_at u (λ x. x) t) ts) (beside t (changed_in u (λ x. x) ts))) p ∙ ap (λ x. beside x ts) (changed_not u t)
        | inr p ↦ ap (λ c. cond c (beside (changed_at u (λ x. x) t) ts) (beside t (changed_in u (λ x. x) ts))) p ∙ ap (λ xs. beside t xs) (changed_none u ts)
      ]
