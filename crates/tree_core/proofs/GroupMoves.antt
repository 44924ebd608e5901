-- Groups put in and taken out: levels, and changes of two groups one after the other.
use Rattle.std.proofs.Common.{◌≡◌, ◌≢◌, ◌≤◌, ◌+◌, suc, true, false, cond, ◌||◌, inl, inr, Option, Some, max, refl, sym, ap, ◌∙◌, arith}
use Rattle.vault_model.specs.Db.{NodeId}
use Rattle.vault_model.specs.Join.{is_id}
use Rattle.vault_model.specs.Tree.{Tree, Trees, beside, height, height_all, id_of, node, none}
use Rattle.vault_model.proofs.Ids.{same_id}
use Rattle.vault_model.proofs.Tests.{decide}
use Rattle.tree_core.specs.Changes.{but_group, changed_at, changed_in, child_with, group_among, group_with, has_group, have_group, level_among, level_of, own_group, with_group, with_last, without_group}
use Rattle.tree_core.proofs.Ways.{below, first, here, later}

-- ---- levels

last_height : (t : Tree) (ts : Trees) → height_all (with_last t ts) ≡ max (height_all ts) (height t)
last_height t none = omega arith
last_height t (beside x xs) = let rest = last_height t xs in omega (arith, rest)

grown_height : (t b : Tree) → height (with_group t b) ≤ max (height b) (suc (height t))
grown_height t (node v r es ts) = let more = last_height t ts in omega (arith, more)

mutual
  -- a group put in stands one level below the group that it is put into
  pub put_height : (u : NodeId) (w t : Tree) → height (changed_at u (with_group w) t) ≤ max (height t) (level_of u t + height w)
  put_height u w (node v r es ts) =
      elim (decide (is_id v u)) [
        | inl p ↦
            let now = ap height (here u (with_group w) v r es ts p) in
            let more = grown_height w (node v r es ts) in
            let level = ap (λ c. cond c 1 (suc (level_among u ts))) p in
            omega (arith, now, more, level)
        | inr p ↦
            let now = ap height (below u (with_group w) v r es ts p) in
            let rest = put_heights u w ts in
            let level = ap (λ c. cond c 1 (suc (level_among u ts))) p in
            omega (arith, now, rest, level)
      ]

  put_heights : (u : NodeId) (w : Tree) (ts : Trees) → height_all (changed_in u (with_group w) ts) ≤ max (height_all ts) (level_among u ts + height w)
  put_heights u w none = omega arith
  put_heights u w (beside t ts) =
      elim (decide (has_group u t)) [
        | inl p ↦
            let now = ap height_all (first u (with_group w) t ts p) in
            let rest = put_height u w t in
            let level = ap (λ c. cond c (level_of u t) (level_among u ts)) p in
            omega (arith, now, rest, level)
        | inr p ↦
            let now = ap height_all (later u (with_group w) t ts p) in
            let rest = put_heights u w ts in
            let level = ap (λ c. cond c (level_of u t) (level_among u ts)) p in
            omega (arith, now, rest, level)
      ]

-- ---- a group taken out of another, and a goal that is not in it

module _ (from to u : NodeId) where
  abbrev take : Tree → Tree
  take = without_group u

  -- the group that is taken out of groups side by side does not have the goal
  abbrev pub OffIn : Trees → Type 0
  OffIn ts = (b : Tree) → own_group u ts ≡ Some b → has_group to b ≡ false

  -- nor does the one that is taken out of a group, where there is one
  abbrev pub Off : Option Tree → Type 0
  Off o = (p : Tree) → o ≡ Some p → (b : Tree) → child_with u p ≡ Some b → has_group to b ≡ false

  pub off_rest : (t : Tree) (ts : Trees) → is_id (id_of t) u ≡ false → OffIn (beside t ts) → OffIn ts
  off_rest t ts p off b e = off b (ap (λ c. cond c (Some t) (own_group u ts)) p ∙ e)

  pub off_first : (t : Tree) (ts : Trees) → is_id (id_of t) u ≡ true → OffIn (beside t ts) → has_group to t ≡ false
  off_first t ts p off = off t (ap (λ c. cond c (Some t) (own_group u ts)) p)

  have_but : (ts : Trees) → OffIn ts → have_group to (but_group u ts) ≡ have_group to ts
  have_but none off = refl
  have_but (beside t ts) off =
      elim (decide (is_id (id_of t) u)) [
        | inl p ↦ ap (λ c. have_group to (cond c ts (beside t (but_group u ts)))) p ∙ ap (λ b. b || have_group to ts) (sym (off_first t ts p off))
        | inr p ↦ ap (λ c. have_group to (cond c ts (beside t (but_group u ts)))) p ∙ ap (λ b. has_group to t || b) (have_but ts (off_rest t ts p off))
      ]

  mutual
    pub to_there : (t : Tree) → Off (group_with from t) → has_group to (changed_at from take t) ≡ has_group to t
    to_there (node v r es ts) off =
        elim (decide (is_id v from)) [
          | inl p ↦ ap (has_group to) (here from take v r es ts p) ∙ ap (λ b. is_id v to || b) (have_but ts (off (node v r es ts) (ap (λ c. cond c (Some (node v r es ts)) (group_among from ts)) p)))
          | inr p ↦ ap (has_group to) (below from take v r es ts p) ∙ ap (λ b. is_id v to || b) (to_among ts (λ g e. off g (ap (λ c. cond c (Some (node v r es ts)) (group_among from ts)) p ∙ e)))
        ]

    to_among : (ts : Trees) → Off (group_among from ts) → have_group to (changed_in from take ts) ≡ have_group to ts
    to_among none off = refl
    to_among (beside t ts) off =
        elim (decide (has_group from t)) [
          | inl p ↦ ap (have_group to) (first from take t ts p) ∙ ap (λ b. b || have_group to ts) (to_there t (λ g e. off g (ap (λ c. cond c (group_with from t) (group_among from ts)) p ∙ e)))
          | inr p ↦ ap (have_group to) (later from take t ts p) ∙ ap (λ b. has_group to t || b) (to_among ts (λ g e. off g (ap (λ c. cond c (group_with from t) (group_among from ts)) p ∙ e)))
        ]

  -- ---- the goal is on the level that it was on

  levels_but : (ts : Trees) → OffIn ts → level_among to (but_group u ts) ≡ level_among to ts
  levels_but none off = refl
  levels_but (beside t ts) off =
      elim (decide (is_id (id_of t) u)) [
        | inl p ↦
            ap (λ c. level_among to (cond c ts (beside t (but_group u ts)))) p
            ∙ sym (ap (λ c. cond c (level_of to t) (level_among to ts)) (off_first t ts p off))
        | inr p ↦
            ap (λ c. level_among to (cond c ts (beside t (but_group u ts)))) p
            ∙ ap (λ n. cond (has_group to t) (level_of to t) n) (levels_but ts (off_rest t ts p off))
      ]

  mutual
    pub level_there : (t : Tree) → Off (group_with from t) → level_of to (changed_at from take t) ≡ level_of to t
    level_there (node v r es ts) off =
        elim (decide (is_id v from)) [
          | inl p ↦
              ap (level_of to) (here from take v r es ts p)
              ∙ ap (λ n. cond (is_id v to) 1 (suc n)) (levels_but ts (off (node v r es ts) (ap (λ c. cond c (Some (node v r es ts)) (group_among from ts)) p)))
          | inr p ↦
              ap (level_of to) (below from take v r es ts p)
              ∙ ap (λ n. cond (is_id v to) 1 (suc n)) (levels_there ts (λ g e. off g (ap (λ c. cond c (Some (node v r es ts)) (group_among from ts)) p ∙ e)))
        ]

    levels_there : (ts : Trees) → Off (group_among from ts) → level_among to (changed_in from take ts) ≡ level_among to ts
    levels_there none off = refl
    levels_there (beside t ts) off =
        elim (decide (has_group from t)) [
          | inl p ↦
              let under : Off (group_with from t) = λ g e. off g (ap (λ c. cond c (group_with from t) (group_among from ts)) p ∙ e) in
              ap (level_among to) (first from take t ts p)
              ∙ ap (λ c. cond c (level_of to (changed_at from take t)) (level_among to ts)) (to_there t under)
              ∙ ap (λ n. cond (has_group to t) n (level_among to ts)) (level_there t under)
          | inr p ↦
              ap (level_among to) (later from take t ts p)
              ∙ ap (λ n. cond (has_group to t) (level_of to t) n)
              (levels_there ts (λ g e. off g (ap (λ c. cond c (group_with from t) (group_among from ts)) p ∙ e)))
        ]

-- ---- a place for a group, and a group taken out, may be made in either order

module _ (from to u : NodeId) (hole : Tree) (other : from ≢ to) (no_from : has_group from hole ≡ false) where
  abbrev take_out : Tree → Tree
  take_out = without_group u

  abbrev put : Tree → Tree
  put = with_group hole

  pub root_stays : (t : Tree) → id_of (changed_at to put t) ≡ id_of t
  root_stays (node v r es ts) =
      elim (decide (is_id v to)) [ inl p ↦ ap id_of (here to put v r es ts p) | inr p ↦ ap id_of (below to put v r es ts p) ]

  have_last : (ts : Trees) → have_group from (with_last hole ts) ≡ have_group from ts
  have_last none = ap (λ b. b || false) no_from
  have_last (beside t ts) = ap (λ b. has_group from t || b) (have_last ts)

  mutual
    pub from_there : (t : Tree) → has_group from (changed_at to put t) ≡ has_group from t
    from_there (node v r es ts) =
        elim (decide (is_id v to)) [
          | inl p ↦ ap (has_group from) (here to put v r es ts p) ∙ ap (λ b. is_id v from || b) (have_last ts)
          | inr p ↦ ap (has_group from) (below to put v r es ts p) ∙ ap (λ b. is_id v from || b) (from_among ts)
        ]

    from_among : (ts : Trees) → have_group from (changed_in to put ts) ≡ have_group from ts
    from_among none = refl
    from_among (beside t ts) =
        elim (decide (has_group to t)) [
          | inl p ↦ ap (have_group from) (first to put t ts p) ∙ ap (λ b. b || have_group from ts) (from_there t)
          | inr p ↦ ap (have_group from) (later to put t ts p) ∙ ap (λ b. has_group from t || b) (from_among ts)
        ]

  -- taking out of groups side by side, and a change below one of them
  take_put : (ts : Trees) → OffIn from to u ts → but_group u (changed_in to put ts) ≡ changed_in to put (but_group u ts)
  take_put none off = refl
  take_put (beside t ts) off =
      elim (decide (is_id (id_of t) u)) [
        | inl p ↦
            ap (but_group u) (later to put t ts (off_first from to u t ts p off))
            ∙ ap (λ c. cond c (changed_in to put ts) (beside t (but_group u (changed_in to put ts)))) p
            ∙ sym (ap (λ c. changed_in to put (cond c ts (beside t (but_group u ts)))) p)
        | inr p ↦ elim (decide (has_group to t)) [
          | inl q ↦
              ap (but_group u) (first to put t ts q)
              ∙ ap (λ c. cond c ts (beside (changed_at to put t) (but_group u ts))) (ap (λ v. is_id v u) (root_stays t) ∙ p)
              ∙ sym (ap (λ c. changed_in to put (cond c ts (beside t (but_group u ts)))) p ∙ first to put t (but_group u ts) q)
          | inr q ↦
              ap (but_group u) (later to put t ts q)
              ∙ ap (λ c. cond c (changed_in to put ts) (beside t (but_group u (changed_in to put ts)))) p
              ∙ ap (λ xs. beside t xs) (take_put ts (off_rest from to u t ts p off))
              ∙ sym (ap (λ c. changed_in to put (cond c ts (beside t (but_group u ts)))) p ∙ later to put t (but_group u ts) q)
        ]
      ]

  -- a change below groups side by side, and one more at their end
  take_last : (ts : Trees) → changed_in from take_out (with_last hole ts) ≡ with_last hole (changed_in from take_out ts)
  take_last none = later from take_out hole none no_from
  take_last (beside t ts) =
      elim (decide (has_group from t)) [
        | inl p ↦ first from take_out t (with_last hole ts) p ∙ sym (ap (with_last hole) (first from take_out t ts p))
        | inr p ↦ later from take_out t (with_last hole ts) p ∙ ap (λ xs. beside t xs) (take_last ts) ∙ sym (ap (with_last hole) (later from take_out t ts p))
      ]

  mutual
    pub either_order : (t : Tree) → Off from to u (group_with from t) → changed_at from take_out (changed_at to put t) ≡ changed_at to put (changed_at from take_out t)
    either_order (node v r es ts) off =
        elim (decide (is_id v from)) [
          | inl p ↦ elim (decide (is_id v to)) [
            | inl q ↦ absurd (other (sym (same_id v from p) ∙ same_id v to q))
            | inr q ↦
                ap (changed_at from take_out) (below to put v r es ts q) ∙ here from take_out v r es (changed_in to put ts) p
                ∙ ap (λ xs. node v r es xs) (take_put ts (off (node v r es ts) (ap (λ c. cond c (Some (node v r es ts)) (group_among from ts)) p)))
                ∙ sym (ap (changed_at to put) (here from take_out v r es ts p) ∙ below to put v r es (but_group u ts) q)
          ]
          | inr p ↦
              let under : Off from to u (group_among from ts) = λ g e. off g (ap (λ c. cond c (Some (node v r es ts)) (group_among from ts)) p ∙ e) in
              elim (decide (is_id v to)) [
                | inl q ↦
                    ap (changed_at from take_out) (here to put v r es ts q) ∙ below from take_out v r es (with_last hole ts) p
                    ∙ ap (λ xs. node v r es xs) (take_last ts)
                    ∙ sym (ap (changed_at to put) (below from take_out v r es ts p) ∙ here to put v r es (changed_in from take_out ts) q)
                | inr q ↦
                    ap (changed_at from take_out) (below to put v r es ts q) ∙ below from take_out v r es (changed_in to put ts) p
                    ∙ ap (λ xs. node v r es xs) (either_orders ts under)
                    ∙ sym (ap (changed_at to put) (below from take_out v r es ts p) ∙ below to put v r es (changed_in from take_out ts) q)
              ]
        ]

    pub either_orders : (ts : Trees) → Off from to u (group_among from ts) → changed_in from take_out (changed_in to put ts) ≡ changed_in to put (changed_in from take_out ts)
    either_orders none off = refl
    either_orders (beside t ts) off =
        elim (decide (has_group from t)) [
          | inl p ↦
              let under : Off from to u (group_with from t) = λ g e. off g (ap (λ c. cond c (group_with from t) (group_among from ts)) p ∙ e) in
              elim (decide (has_group to t)) [
                | inl q ↦
                    ap (changed_in from take_out) (first to put t ts q) ∙ first from take_out (changed_at to put t) ts (from_there t ∙ p)
                    ∙ ap (λ x. beside x ts) (either_order t under)
                    ∙ sym (ap (changed_in to put) (first from take_out t ts p) ∙ first to put (changed_at from take_out t) ts (to_there from to u t under ∙ q))
                | inr q ↦
                    ap (changed_in from take_out) (later to put t ts q) ∙ first from take_out t (changed_in to put ts) p
                    ∙ sym (ap (changed_in to put) (first from take_out t ts p) ∙ later to put (changed_at from take_out t) ts (to_there from to u t under ∙ q))
              ]
          | inr p ↦
              let under : Off from to u (group_among from ts) = λ g e. off g (ap (λ c. cond c (group_with from t) (group_among from ts)) p ∙ e) in
              elim (decide (has_group to t)) [
                | inl q ↦
                    ap (changed_in from take_out) (first to put t ts q) ∙ later from take_out (changed_at to put t) ts (from_there t ∙ p)
                    ∙ sym (ap (changed_in to put) (later from take_out t ts p) ∙ first to put t (changed_in from take_out ts) q)
                | inr q ↦
                    ap (changed_in from take_out) (later to put t ts q) ∙ later from take_out t (changed_in to put ts) p
                    ∙ ap (λ xs. beside t xs) (either_orders ts under)
                    ∙ sym (ap (changed_in to put) (later from take_out t ts p) ∙ later to put t (changed_in from take_out ts) q)
              ]
        ]
