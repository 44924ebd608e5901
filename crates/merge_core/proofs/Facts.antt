-- What the join has at an id, and what agreed members say of their own nodes.
use Rattle.std.proofs.Common.{◌≡◌, ◌≢◌, ◌≤◌, ℕ, Bool, true, false, not, cond, ◌&&◌, inl, inr, List, [], ◌∷◌, ◌++◌, Option, Some, None, map, max, ◌↔◌, length, zero, suc, refl, sym, ap, subst, ◌∙◌}
use Rattle.std.proofs.lemmas.Bool.{le-leb}
use Rattle.std.specs.FinMap.{FinMap, get, contains_key, keys, retain_keys, get-retain_keys}
use Rattle.std.specs.Cmp.{both_ways}
use Rattle.std.specs.List.{list_any}
use Rattle.vault_model.specs.Db.{NodeId, id_cmp, Place, place_cmp, Db, holds, stamp_in, parent_or, Sound}
use Rattle.vault_model.specs.Join.{stats_join, state_join, is_id, root_of, latest, above, stamp, is_from, is_held, buried, own, ids, trail, path, kept, join, IsIn, IsNotEmpty, IsPart, HaveOneRoot, KeepsParents, Compatible}
use Rattle.vault_model.specs.Unite.{greater, gather, unite, unite_all}
use Rattle.vault_model.proofs.Ids.{same_id, id_itself}
use Rattle.vault_model.proofs.Orders.{id_order}
use Rattle.merge_core.proofs.Semilattice.{gather-selects, greater_one}
use Rattle.vault_model.proofs.Orders.{place_order}
use Rattle.vault_model.proofs.Tests.{or_cases, or_left, or_right, and_true, and_both, not_true, not_false, apart, some_is, any_true, any_found, any_none, in_front, in_back, in_flat, map_map, greatest_below, from_map}
use Rattle.merge_core.proofs.Unite.{get-unite_all, in_keys}

-- ---- the join at an id

module _ {A : Type 0} (f : A → A → A) (field : Db → FinMap id_cmp A) (keep : NodeId → Bool) (S : List Db) where
  pub get-kept : (u : NodeId) → get (retain_keys (unite_all f (map field S)) keep) u ≡ cond (keep u) (gather f (map (λ (m : Db). get (field m) u) S)) None
  get-kept u =
      get-retain_keys (unite_all f (map field S)) keep u (λ x e. ap keep (sym (id_order.same u x e)))
      ∙ ap (λ v. cond (keep u) v None)
      (get-unite_all id_order.total id_order.same f (map field S) u ∙ ap (gather f) (map_map field (λ (e : FinMap id_cmp A). get e u) S))

pub join_entries : (S : List Db) (u : NodeId)
    → get (join S).entries u ≡ cond (kept S u) (gather (unite stats_join) (map (λ (m : Db). get m.entries u) S)) None
unfolding join
join_entries S = get-kept (unite stats_join) (λ m. m.entries) (kept S) S

pub join_groups : (S : List Db) (u : NodeId)
    → get (join S).groups u ≡ cond (kept S u) (gather state_join (map (λ (m : Db). get m.groups u) S)) None
unfolding join
join_groups S = get-kept state_join (λ m. m.groups) (kept S) S

pub join_places : (S : List Db) (u : NodeId) → get (join S).places u ≡ cond (kept S u) (latest S u) None
unfolding join
join_places S = get-kept (greater place_cmp) (λ m. m.places) (kept S) S

pub join_tombs : (S : List Db) (u : NodeId)
    → get (join S).tombs u ≡ cond (not (kept S u)) (gather max (map (λ (m : Db). get m.tombs u) S)) None
unfolding join
join_tombs S = get-kept max (λ m. m.tombs) (λ u. not (kept S u)) S

pub join_root : (S : List Db) → (join S).root ≡ root_of S
unfolding join
join_root S = refl

-- ---- members

pub held_by : (S : List Db) (m : Db) (u : NodeId) → IsIn m S → holds m u ≡ true → is_held S u ≡ true
held_by S m u h e = any_true (λ (n : Db). holds n u) S m h e

-- what a member holds is among the ids
pub held_id : (S : List Db) (u : NodeId) → is_held S u ≡ true → IsIn u (ids S)
held_id S u e =
    let f = any_found (λ (n : Db). holds n u) S e in
    in_flat (λ (m : Db). keys m.entries ++ keys m.groups) S f.0 u f.1.0
    (elim (or_cases (contains_key f.0.entries u) (contains_key f.0.groups u) f.1.1) [
      | inl k ↦ in_front (keys f.0.entries) (keys f.0.groups) u (in_keys id_order.total id_order.same f.0.entries u k)
      | inr k ↦ in_back (keys f.0.entries) (keys f.0.groups) u (in_keys id_order.total id_order.same f.0.groups u k)
    ])

-- what has a place is held, and is not the root
pub placed_held : (m : Db) (u : NodeId) (p : Place) → Sound m → get m.places u ≡ Some p → (u ≢ m.root) × (holds m u ≡ true)
placed_held m u p s e =
    let apart_root : u ≢ m.root = λ r. let none : get m.places u ≡ None = ap (get m.places) r ∙ s.top in let no : None ≡ Some p → ⊥ = λ q. cc q in no (sym none ∙ e) in
    (apart_root, sym (s.placed u apart_root) ∙ some_is (get m.places u) p e)

-- the latest place is a member's
pub latest_found : (S : List Db) (u : NodeId) (p : Place) → latest S u ≡ Some p → (m : Db) × (IsIn m S × (get m.places u ≡ Some p))
latest_found S u p e =
    from_map (λ (m : Db). get m.places u) S (Some p)
    (gather-selects (greater place_cmp) (greater_one place_order.total place_order.same) (map (λ (m : Db). get m.places u) S) p e)

-- a part of the members has their root
pub part_root : (R S : List Db) → HaveOneRoot S → IsPart R S → root_of R ≡ root_of S
part_root [] S one part = absurd part.0
part_root (m ∷ ms) S one part = one m (part.1 m (inl refl))

pub root_held : (R : List Db) → IsNotEmpty R → ((m : Db) → IsIn m R → Sound m) → is_held R (root_of R) ≡ true
root_held [] some sound = absurd some
root_held (m ∷ ms) some sound =
    let s = sound m (inl refl) in
    or_left (holds m m.root) (is_held ms m.root) (or_right (contains_key m.entries m.root) (contains_key m.groups m.root) s.root)

-- ---- agreed members: own is alive

module _ {S : List Db} (a : Compatible S) (R : List Db) (part : IsPart R S) where
  pub part_sound : (m : Db) → IsIn m R → Sound m
  part_sound m h = a.sound m (part.1 m h)

  pub part_roots : (m : Db) → IsIn m R → m.root ≡ root_of R
  part_roots m h = a.root m (part.1 m h) ∙ sym (part_root R S a.root part)

  stamp_before : (u : NodeId) (m : Db) (d : ℕ) → IsIn m R → get m.tombs u ≡ Some d → stamp R u ≤ d
  stamp_before u m d h e =
      greatest_below (map (λ (n : Db). stamp_in n u) R) d (λ k g.
      let f = from_map (λ (n : Db). stamp_in n u) R k g in
      subst (λ (j : ℕ). j ≤ d) f.1.1 (a.tombs m f.0 u d (part.1 m h) (part.1 f.0 f.1.0) e))

  tomb_buries : (u : NodeId) (m : Db) (d : ℕ) → IsIn m R → get m.tombs u ≡ Some d → buried R u ≡ true
  tomb_buries u m d h e =
      any_true (λ (n : Db). is_from (stamp R u) (get n.tombs u)) R m h
      (ap (is_from (stamp R u)) e ∙ le-leb (stamp R u) d (stamp_before u m d h e))

  no_tomb : (u : NodeId) (m : Db) (o : Option ℕ) → get m.tombs u ≡ o → IsIn m R → buried R u ≡ false → o ≡ None
  no_tomb u m None e h b = refl
  no_tomb u m (Some d) e h b = apart (buried R u) (tomb_buries u m d h e) b

  pub root_alive : (u : NodeId) → u ≡ root_of R → (is_held R u ≡ true) × ((m : Db) → IsIn m R → get m.tombs u ≡ None)
  root_alive u r = (
    ap (is_held R) r ∙ root_held R part.0 part_sound,
    λ m h.
        let s = part_sound m h in
        s.alive u (ap (holds m) (r ∙ sym (part_roots m h)) ∙ or_right (contains_key m.entries m.root) (contains_key m.groups m.root) s.root),
  )

  pub alive_from_own : (u : NodeId) → own R u ≡ true → (is_held R u ≡ true) × ((m : Db) → IsIn m R → get m.tombs u ≡ None)
  unfolding own
  alive_from_own u e =
      elim (or_cases (is_id u (root_of R)) (is_held R u && not (buried R u)) e) [
        | inl r ↦ root_alive u (same_id u (root_of R) r)
        | inr k ↦
            let both = and_true (is_held R u) (not (buried R u)) k in
            (both.0, λ m h. no_tomb u m (get m.tombs u) refl h (not_true (buried R u) both.1))
      ]

  pub own_from_alive : (u : NodeId) → is_held R u ≡ true → ((m : Db) → IsIn m R → get m.tombs u ≡ None) → own R u ≡ true
  unfolding own
  own_from_alive u e none =
      or_right (is_id u (root_of R)) (is_held R u && not (buried R u)) (and_both (is_held R u) (not (buried R u)) e
      (not_false (buried R u) (any_none (λ (n : Db). is_from (stamp R u) (get n.tombs u)) R (λ m h. ap (is_from (stamp R u)) (none m h)))))

  pub own-alive : (u : NodeId) → (own R u ≡ true) ↔ ((is_held R u ≡ true) × ((m : Db) → IsIn m R → get m.tombs u ≡ None))
  own-alive u = (alive_from_own u, λ f. own_from_alive u f.0 f.1)

-- ---- trails

pub trail_head : (S : List Db) (n : ℕ) (u : NodeId) → list_any (is_id u) (trail S n u) ≡ true
trail_head S zero u = or_left (is_id u u) false (id_itself u)
trail_head S (suc n) u = or_left (is_id u u) (list_any (is_id u) (trail S n (above S u))) (id_itself u)

-- what the next step up keeps holds all along a trail
pub trail_keeps : (S : List Db) (test : NodeId → Bool) → ((u : NodeId) → test u ≡ true → test (above S u) ≡ true)
    → (n : ℕ) (v u : NodeId) → test v ≡ true → list_any (is_id u) (trail S n v) ≡ true → test u ≡ true
trail_keeps S test next zero v u e h =
    elim (or_cases (is_id u v) false h) [
      | inl p ↦ ap test (same_id u v p) ∙ e
      | inr k ↦ apart false k refl
    ]
trail_keeps S test next (suc n) v u e h =
    elim (or_cases (is_id u v) (list_any (is_id u) (trail S n (above S v))) h) [
      | inl p ↦ ap test (same_id u v p) ∙ e
      | inr k ↦ trail_keeps S test next n (above S v) u (next v e) k
    ]

-- ---- agreed members: parents are own, and so the kept nodes are the own ones

module _ {S : List Db} (a : Compatible S) (R : List Db) (part : IsPart R S) (filled : KeepsParents R) where
  pub above_own : (u : NodeId) (p : Place) → own R u ≡ true → latest R u ≡ Some p → own R p.parent ≡ true
  above_own u p e l =
      let f = latest_found R u p l in
      let s = part_sound a R part f.0 f.1.0 in
      own_from_alive a R part p.parent
      (held_by R f.0 p.parent f.1.0 (or_right (contains_key f.0.entries p.parent) (contains_key f.0.groups p.parent) (s.parents u p f.1.1)))
      (λ m h. filled u p m e l h)

  parent_own : (u : NodeId) (o : Option Place) → latest R u ≡ o → own R u ≡ true → own R (parent_or u o) ≡ true
  parent_own u None l e = e
  parent_own u (Some p) l e = above_own u p e l

  pub next_own : (u : NodeId) → own R u ≡ true → own R (above R u) ≡ true
  next_own u e = parent_own u (latest R u) refl e

  unkept : (u : NodeId) → kept R u ≡ true → own R u ≡ true
  unfolding kept
  unkept u e =
      let f = any_found (λ (v : NodeId). own R v && list_any (is_id u) (path R v)) (ids R) e in
      let both = and_true (own R f.0) (list_any (is_id u) (path R f.0)) f.1.1 in
      trail_keeps R (own R) next_own (length (ids R)) f.0 u both.0 both.1

  own_kept : (u : NodeId) → own R u ≡ true → kept R u ≡ true
  unfolding kept
  own_kept u e =
      any_true (λ (v : NodeId). own R v && list_any (is_id u) (path R v)) (ids R) u
      (held_id R u (alive_from_own a R part u e).0)
      (and_both (own R u) (list_any (is_id u) (path R u)) e (trail_head R (length (ids R)) u))

  pub kept-own : (u : NodeId) → kept R u ≡ own R u
  kept-own u = both_ways (kept R u) (own R u) (unkept u) (own_kept u)
