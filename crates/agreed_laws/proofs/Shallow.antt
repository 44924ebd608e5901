-- No kept node is too deep exactly where the join fits the levels.
use Rattle.std.proofs.Common.{◌≡◌, ◌≤◌, ◌<◌, ◌-◌, ℕ, zero, suc, Bool, true, false, not, cond, inl, inr, List, [], ◌∷◌, Option, Some, None, map, refl, sym, ap, subst, ◌∙◌, arith}
use Rattle.std.specs.FinMap.{get, contains_key}
use Rattle.std.specs.List.{list_any, filter}
use Rattle.vault_model.specs.Db.{NodeId, Place, Db, holds, parent_or, steps, Sound}
use Rattle.vault_model.specs.Join.{is_id, root_of, latest, above, ids, trail, kept, join, IsIn, Allowed, state_join}
use Rattle.vault_model.specs.Tree.{IsDeep, FitsLevels}
use Rattle.vault_model.specs.Unite.{gather, join_options}
use Rattle.vault_model.proofs.Tests.{or_cases, or_right, and_true, and_both, not_true, not_false, any_true, any_found, in_filter, apart, decide, is_false}
use Rattle.merge_core.proofs.Facts.{held_id, join_groups, join_places, join_root, trail_head}
use Rattle.merge_core.proofs.Allowed.{kept_above, kept_held, kept_reaches, trail_step}
use Rattle.merge_core.proofs.SoundJoin.{column_kept, cond_some, group_kept, join_sound}
use Rattle.merge_core.proofs.Versions.{never}
use Rattle.merge_core.specs.Refusals.{allowed_steps, is_entry, is_too_deep, least, lesser, too_deep}

-- what no member passes filters nothing
pub none_pass : {A : Type 0} (test : A → Bool) (xs : List A) → ((x : A) → IsIn x xs → test x ≡ false) → filter test xs ≡ []
none_pass test [] each = refl
none_pass test (x ∷ xs) each =
    ap (λ b. cond b (x ∷ filter test xs) (filter test xs)) (each x (inl refl)) ∙ none_pass test xs (λ y h. each y (inr h))

-- what stands so many steps up is on the trail
pub on_trail : (S : List Db) (n i : ℕ) (u : NodeId) → i ≤ n → list_any (is_id (steps (above S) i u)) (trail S n u) ≡ true
on_trail S n zero u less = trail_head S n u
on_trail S zero (suc i) u less = absurd (omega (arith, less))
on_trail S (suc n) (suc i) u less =
    or_right (is_id (steps (above S) i (above S u)) u) (list_any (is_id (steps (above S) i (above S u))) (trail S n (above S u)))
    (on_trail S n i (above S u) (omega (arith, less)))

-- where there is no least there is none
pub no_least : (us : List NodeId) → least us ≡ None → (u : NodeId) → IsIn u us → ⊥
no_least [] e u h = h
no_least (v ∷ vs) e u h = some (gather lesser (map Some vs)) e
  where
    some : (o : Option NodeId) → join_options lesser (Some v) o ≡ None → ⊥
    some None q = never v (sym q)
    some (Some w) q = never (lesser v w) (sym q)

module _ (S : List Db) (al : Allowed S) (sound : (m : Db) → IsIn m S → Sound m) where
  abbrev DeepAt : NodeId → Type 0
  DeepAt u = (d : ℕ) × (IsDeep (join S) d u × (steps (above S) d u ≡ root_of S))

  -- a kept node from which so many steps lead to the root is some steps below it in the join
  deep_at : (k : ℕ) (u : NodeId) → kept S u ≡ true → steps (above S) k u ≡ root_of S → DeepAt u
  deep_at zero u is e = (zero, (e ∙ sym (join_root S), e))
  deep_at (suc k) u is e = at (latest S u) refl (deep_at k (above S u) (kept_above S al sound u is) e)
    where
      at : (o : Option Place) → latest S u ≡ o → DeepAt (above S u) → DeepAt u
      at None l rest = subst DeepAt (ap (parent_or u) l) rest
      at (Some p) l rest = (
        suc rest.0,
        (
          (
            p,
            join_places S u ∙ (λ i. cond (is i) (l i) None),
            subst (IsDeep (join S) rest.0) (ap (parent_or u) l) rest.1.0,
          ),
          rest.1.1,
        ),
      )

  -- who stands d levels below the root takes no fewer steps to it
  no_nearer : (d i : ℕ) (u : NodeId) → IsDeep (join S) d u → steps (above S) i u ≡ root_of S → d ≤ i
  no_nearer zero i u deep e = omega arith
  no_nearer (suc d) zero u deep e =
      never deep.0 (sym (ap (get (join S).places) (e ∙ sym (join_root S)) ∙ (join_sound S al sound).top) ∙ deep.1)
  no_nearer (suc d) (suc i) u deep e =
      let l = (cond_some (kept S u) (latest S u) deep.0 (sym (join_places S u) ∙ deep.1)).1 in
      let rest = no_nearer d i deep.0.parent deep.2 (ap (steps (above S) i) (sym (ap (parent_or u) l)) ∙ e) in
      omega (arith, rest)

  pub fits : (n : ℕ) → 0 < n → least (too_deep n S) ≡ None → FitsLevels n (join S)
  unfolding too_deep
  fits n more none d u e deep =
      let g = group_kept S al sound u e in
      let no_entry : is_entry S u ≡ false = is_false (is_entry S u) (λ t.
      let f = any_found (λ (m : Db). contains_key m.entries u) S t in
      apart (contains_key g.1.0.groups u) g.1.1.1 (al.kinds f.0 g.1.0 u f.1.0 g.1.1.0 f.1.1)) in
      let way = trail S (allowed_steps n S u) u in
      let held = held_id S u (kept_held S al sound u g.0) in
      elim (decide (list_any (is_id (root_of S)) way)) [
        | inl t ↦
            let r = trail_step S (n - 1) u (root_of S) (ap (λ b. list_any (is_id (root_of S)) (trail S (cond b n (n - 1)) u)) (sym no_entry) ∙ t) in
            let far = no_nearer d r.0 u deep r.1.1 in
            let within = r.1.0 in
            omega (arith, far, within, more)
        | inr t ↦ absurd (no_least (filter (is_too_deep n S) (ids S)) none u
            (in_filter (is_too_deep n S) (ids S) u held (and_both (kept S u) (not (list_any (is_id (root_of S)) way)) g.0 (not_false (list_any (is_id (root_of S)) way) t))))
      ]

  module _ (n : ℕ) (more : 0 < n) (fits : FitsLevels n (join S)) where
    -- no node is deeper than the level below the last group's
    depth : (d : ℕ) (u : NodeId) → IsDeep (join S) d u → d ≤ n
    depth zero u deep = omega arith
    depth (suc d) u deep =
        let less = fits d deep.0.parent ((join_sound S al sound).parents u deep.0 deep.1) deep.2 in
        omega (arith, less)

    -- a kept node that is no entry is a group
    group_of : (u : NodeId) → kept S u ≡ true → is_entry S u ≡ false → contains_key (join S).groups u ≡ true
    group_of u is e =
        let f = any_found (λ (m : Db). holds m u) S (kept_held S al sound u is) in
        elim (or_cases (contains_key f.0.entries u) (contains_key f.0.groups u) f.1.1) [
          | inl h ↦ apart (is_entry S u) (any_true (λ (m : Db). contains_key m.entries u) S f.0 f.1.0 h) e
          | inr h ↦ column_kept state_join (λ m. m.groups) S u (join S).groups (kept S u) (join_groups S u) is f.0 f.1.0 h
        ]

    near : (u : NodeId) → kept S u ≡ true → (d : ℕ) → IsDeep (join S) d u → d ≤ allowed_steps n S u
    near u is d deep =
        elim (decide (is_entry S u)) [
          | inl e ↦ subst (λ (b : Bool). d ≤ cond b n (n - 1)) (sym e) (depth d u deep)
          | inr e ↦
              let less = fits d u (group_of u is e) deep in
              subst (λ (b : Bool). d ≤ cond b n (n - 1)) (sym e) (omega (arith, less))
        ]

    not_deep : (u : NodeId) → is_too_deep n S u ≡ false
    not_deep u = is_false (is_too_deep n S u) (λ e.
        let way = trail S (allowed_steps n S u) u in
        let parts = and_true (kept S u) (not (list_any (is_id (root_of S)) way)) e in
        let r = kept_reaches S al sound u parts.0 in
        let d = deep_at r.0 u parts.0 r.1 in
        apart (list_any (is_id (root_of S)) way)
        (ap (λ (v : NodeId). list_any (is_id v) way) (sym d.1.1) ∙ on_trail S (allowed_steps n S u) d.0 u (near u parts.0 d.0 d.1.0))
        (not_true (list_any (is_id (root_of S)) way) parts.1))

    pub shallow : least (too_deep n S) ≡ None
    unfolding too_deep
    shallow = ap least (none_pass (is_too_deep n S) (ids S) (λ u h. not_deep u))
