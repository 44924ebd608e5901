-- Members that can be joined: what is kept is held, and leads up to the root over what is kept.
use Rattle.std.proofs.Common.{◌≡◌, ◌≤◌, ◌+◌, ◌-◌, ℕ, zero, suc, true, false, not, ◌&&◌, ◌⊎◌, inl, inr, List, Option, Some, None, map, length, refl, sym, ap, subst, ◌∙◌, arith}
use Rattle.std.specs.FinMap.{get, contains_key}
use Rattle.std.specs.List.{list_any}
use Rattle.vault_model.specs.Db.{NodeId, Place, place_cmp, Db, parent_or, steps, Reaches, Sound}
use Rattle.vault_model.specs.Join.{is_id, root_of, latest, above, is_held, buried, own, ids, trail, path, kept, IsIn, IsNotEmpty, HaveOneRoot, Allowed}
use Rattle.vault_model.specs.Unite.{greater}
use Rattle.vault_model.proofs.Ids.{same_id, id_itself}
use Rattle.merge_core.proofs.Facts.{held_by, held_id, latest_found, root_held, trail_head, trail_keeps}
use Rattle.merge_core.proofs.Paths.{steps_add, reached_within, at_number}
use Rattle.merge_core.proofs.Semilattice.{none-gather}
use Rattle.vault_model.proofs.Tests.{or_cases, or_left, or_right, and_true, and_both, apart, any_true, any_found, from_map}

-- what stands on a trail has the next on it too, unless it is where the trail ends
trail_next : (S : List Db) (n : ℕ) (v u : NodeId) → list_any (is_id u) (trail S n v) ≡ true
    → (list_any (is_id (above S u)) (trail S n v) ≡ true) ⊎ (u ≡ steps (above S) n v)
trail_next S zero v u h = elim (or_cases (is_id u v) false h) [ inl p ↦ inr (same_id u v p) | inr k ↦ apart false k refl ]
trail_next S (suc n) v u h =
    elim (or_cases (is_id u v) (list_any (is_id u) (trail S n (above S v))) h) [
      | inl p ↦ inl (or_right (is_id (above S u) v) (list_any (is_id (above S u)) (trail S n (above S v)))
          (subst (λ (w : NodeId). list_any (is_id (above S w)) (trail S n (above S v)) ≡ true) (sym (same_id u v p)) (trail_head S n (above S v))))
      | inr k ↦ elim (trail_next S n (above S v) u k) [
        | inl q ↦ inl (or_right (is_id (above S u) v) (list_any (is_id (above S u)) (trail S n (above S v))) q)
        | inr q ↦ inr q
      ]
    ]

-- what stands on a trail is some steps up
pub trail_step : (S : List Db) (n : ℕ) (v u : NodeId) → list_any (is_id u) (trail S n v) ≡ true → (i : ℕ) × ((i ≤ n) × (steps (above S) i v ≡ u))
trail_step S zero v u h = elim (or_cases (is_id u v) false h) [ inl p ↦ (zero, (omega arith, sym (same_id u v p))) | inr k ↦ apart false k refl ]
trail_step S (suc n) v u h =
    elim (or_cases (is_id u v) (list_any (is_id u) (trail S n (above S v))) h) [
      | inl p ↦ (zero, (omega arith, sym (same_id u v p)))
      | inr k ↦ let r = trail_step S n (above S v) u k in let less = r.1.0 in (suc r.0, (omega (arith, less), r.1.1))
    ]

-- members of one root
module _ (S : List Db) (some : IsNotEmpty S) (one : HaveOneRoot S) (sound : (m : Db) → IsIn m S → Sound m) where
  pub root_latest : latest S (root_of S) ≡ None
  root_latest =
      none-gather (greater place_cmp) (map (λ (m : Db). get m.places (root_of S)) S) (λ o h.
      let f = from_map (λ (m : Db). get m.places (root_of S)) S o h in
      sym f.1.1 ∙ ap (get f.0.places) (sym (one f.0 f.1.0)) ∙ (sound f.0 f.1.0).top)

  pub root_stays : above S (root_of S) ≡ root_of S
  root_stays = ap (parent_or (root_of S)) root_latest

  pub own_held : (u : NodeId) → own S u ≡ true → is_held S u ≡ true
  unfolding own
  own_held u e =
      elim (or_cases (is_id u (root_of S)) (is_held S u && not (buried S u)) e) [
        | inl r ↦ ap (is_held S) (same_id u (root_of S) r) ∙ root_held S some sound
        | inr k ↦ (and_true (is_held S u) (not (buried S u)) k).0
      ]

  pub root_own : own S (root_of S) ≡ true
  unfolding own
  root_own = or_left (is_id (root_of S) (root_of S)) (is_held S (root_of S) && not (buried S (root_of S))) (id_itself (root_of S))

  pub parent_held : (u : NodeId) (o : Option Place) → latest S u ≡ o → is_held S u ≡ true → is_held S (parent_or u o) ≡ true
  parent_held u None l e = e
  parent_held u (Some p) l e =
      let f = latest_found S u p l in
      held_by S f.0 p.parent f.1.0 (or_right (contains_key f.0.entries p.parent) (contains_key f.0.groups p.parent) ((sound f.0 f.1.0).parents u p f.1.1))

  pub held_above : (u : NodeId) → is_held S u ≡ true → is_held S (above S u) ≡ true
  held_above u e = parent_held u (latest S u) refl e

  pub steps_held : (n : ℕ) (u : NodeId) → is_held S u ≡ true → is_held S (steps (above S) n u) ≡ true
  steps_held zero u e = e
  steps_held (suc n) u e = steps_held n (above S u) (held_above u e)

  -- who keeps a node
  pub keeper : (u : NodeId) → kept S u ≡ true → (v : NodeId) × ((own S v ≡ true) × (list_any (is_id u) (path S v) ≡ true))
  unfolding kept
  keeper u e =
      let f = any_found (λ (v : NodeId). own S v && list_any (is_id u) (path S v)) (ids S) e in
      (f.0, and_true (own S f.0) (list_any (is_id u) (path S f.0)) f.1.1)

  pub keeps : (v u : NodeId) → own S v ≡ true → list_any (is_id u) (path S v) ≡ true → kept S u ≡ true
  unfolding kept
  keeps v u e h =
      any_true (λ (w : NodeId). own S w && list_any (is_id u) (path S w)) (ids S) v (held_id S v (own_held v e))
      (and_both (own S v) (list_any (is_id u) (path S v)) e h)

-- members that can be joined
module _ (S : List Db) (al : Allowed S) (sound : (m : Db) → IsIn m S → Sound m) where
  -- an own node's path ends at the root
  pub own_arrives : (u : NodeId) → own S u ≡ true → steps (above S) (length (ids S)) u ≡ root_of S
  own_arrives u e =
      let r = al.acyclic u e in
      reached_within (above S) (root_of S) (root_stays S al.some al.root sound) r.0 (ids S) u (λ i. inr (held_id S (steps (above S) i u) (steps_held S al.some al.root sound i u (own_held S al.some al.root sound u e)))) r.1

  pub kept_held : (u : NodeId) → kept S u ≡ true → is_held S u ≡ true
  kept_held u e = let k = keeper S al.some al.root sound u e in trail_keeps S (is_held S) (held_above S al.some al.root sound) (length (ids S)) k.0 u (own_held S al.some al.root sound k.0 k.1.0) k.1.1

  pub kept_root : kept S (root_of S) ≡ true
  kept_root = keeps S al.some al.root sound (root_of S) (root_of S) (root_own S al.some al.root sound) (trail_head S (length (ids S)) (root_of S))

  pub kept_above : (u : NodeId) → kept S u ≡ true → kept S (above S u) ≡ true
  kept_above u e =
      let k = keeper S al.some al.root sound u e in
      elim (trail_next S (length (ids S)) k.0 u k.1.1) [
        | inl h ↦ keeps S al.some al.root sound k.0 (above S u) k.1.0 h
        | inr p ↦ let r : u ≡ root_of S = p ∙ own_arrives k.0 k.1.0 in ap (kept S) (ap (above S) r ∙ root_stays S al.some al.root sound) ∙ kept_root
      ]

  pub kept_reaches : (u : NodeId) → kept S u ≡ true → Reaches (above S) u (root_of S)
  kept_reaches u e =
      let k = keeper S al.some al.root sound u e in
      let n = length (ids S) in
      let t = trail_step S n k.0 u k.1.1 in
      let within = t.1.0 in
      let parts : t.0 + (n - t.0) ≡ n = omega (arith, within) in (
        n - t.0,
        ap (steps (above S) (n - t.0)) (sym t.1.1) ∙ sym (steps_add (above S) t.0 (n - t.0) k.0)
            ∙ at_number (λ i. steps (above S) i k.0) (t.0 + (n - t.0)) n parts ∙ own_arrives k.0 k.1.0,
      )
