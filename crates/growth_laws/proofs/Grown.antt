-- A database that only grew is the join of what it was and what it is.
use Rattle.std.proofs.Common.{◌≡◌, Bool, true, false, not, cond, ◌&&◌, ◌||◌, inl, inr, List, [], ◌∷◌, Option, Some, None, max, map, length, refl, sym, ap, ◌∙◌}
use Rattle.std.specs.Cmp.{both_ways}
use Rattle.std.specs.FinMap.{get, contains_key, same_map}
use Rattle.std.specs.List.{list_any}
use Rattle.vault_model.specs.Db.{NodeId, Place, place_cmp, Db, holds, parent_or, Sound}
use Rattle.vault_model.specs.Join.{is_id, stats_join, state_join, latest, above, stamp, is_from, is_held, buried, own, ids, path, kept, join}
use Rattle.vault_model.specs.Unite.{greater, gather, join_options, unite}
use Rattle.vault_model.proofs.Ids.{same_id}
use Rattle.merge_core.proofs.Facts.{join_entries, join_groups, join_places, join_tombs, join_root, held_by, held_id, trail_head, trail_keeps}
use Rattle.merge_core.proofs.Joins.{places_joins, state_joins, versions_joins}
use Rattle.vault_model.proofs.Orders.{id_order}
use Rattle.merge_core.proofs.Semilattice.{max_join, merged_none}
use Rattle.merge_core.proofs.SoundJoin.{join_meta}
use Rattle.vault_model.proofs.Tests.{or_cases, or_right, or_false, and_true, and_both, not_true, not_false, apart, decide, none_of, any_true, any_found, any_none}
use Rattle.growth_laws.proofs.GrowsAt.{Grows}

module _ (m n : Db) (sound : Sound n) (grows : Grows m n) where
  abbrev both : List Db
  both = m ∷ n ∷ []

  root_holds : holds n n.root ≡ true
  root_holds = or_right (contains_key n.entries n.root) (contains_key n.groups n.root) sound.root

  not_buried : (u : NodeId) → holds n u ≡ true → buried both u ≡ false
  not_buried u h = any_none (λ (x : Db). is_from (stamp both u) (get x.tombs u)) both (λ x i. elim i [
    | inl p ↦ ap (λ (y : Db). is_from (stamp both u) (get y.tombs u)) (sym p) ∙ ap (is_from (stamp both u)) (grows.alive u h)
    | inr j ↦ elim j [
      | inl p ↦ ap (λ (y : Db). is_from (stamp both u) (get y.tombs u)) (sym p) ∙ ap (is_from (stamp both u)) (sound.alive u h)
      | inr k ↦ absurd k
    ]
  ])

  held_by_one : (u : NodeId) → holds n u ≡ true → is_held both u ≡ true
  held_by_one u h = held_by both n u (inr (inl refl)) h

  own_of : (u : NodeId) → holds n u ≡ true → own both u ≡ true
  unfolding own
  own_of u h = or_right (is_id u m.root) (is_held both u && not (buried both u)) (and_both (is_held both u) (not (buried both u)) (held_by_one u h) (not_false (buried both u) (not_buried u h)))

  of_own : (u : NodeId) → own both u ≡ true → holds n u ≡ true
  unfolding own
  of_own u e =
      elim (or_cases (is_id u m.root) (is_held both u && not (buried both u)) e) [
        | inl r ↦ ap (holds n) (same_id u m.root r ∙ grows.root) ∙ root_holds
        | inr k ↦
            let parts = and_true (is_held both u) (not (buried both u)) k in
            elim (decide (holds n u)) [
              | inl h ↦ h
              | inr off ↦
                  elim (or_cases (holds m u) (holds n u || false) parts.0) [
                    | inl h ↦ apart (buried both u)
                        (any_true (λ (x : Db). is_from (stamp both u) (get x.tombs u)) both n (inr (inl refl)) (grows.gone u off h))
                        (not_true (buried both u) parts.1)
                    | inr h ↦ apart (holds n u || false) h (ap (λ b. b || false) off)
                  ]
            ]
      ]

  latest_is : (u : NodeId) → holds n u ≡ true → latest both u ≡ get n.places u
  latest_is u h = ap (join_options (greater place_cmp) (get m.places u)) (merged_none places_joins (get n.places u)) ∙ grows.places u h

  above_holds : (u : NodeId) → holds n u ≡ true → holds n (above both u) ≡ true
  above_holds u h = ap (λ o. holds n (parent_or u o)) (latest_is u h) ∙ at (get n.places u) refl
    where
      at : (o : Option Place) → get n.places u ≡ o → holds n (parent_or u o) ≡ true
      at None q = h
      at (Some p) q = or_right (contains_key n.entries p.parent) (contains_key n.groups p.parent) (sound.parents u p q)

  kept_of : (u : NodeId) → holds n u ≡ true → kept both u ≡ true
  unfolding kept
  kept_of u h =
      any_true (λ (v : NodeId). own both v && list_any (is_id u) (path both v)) (ids both) u (held_id both u (held_by_one u h))
      (and_both (own both u) (list_any (is_id u) (path both u)) (own_of u h) (trail_head both (length (ids both)) u))

  of_kept : (u : NodeId) → kept both u ≡ true → holds n u ≡ true
  unfolding kept
  of_kept u e =
      let f = any_found (λ (v : NodeId). own both v && list_any (is_id u) (path both v)) (ids both) e in
      let parts = and_true (own both f.0) (list_any (is_id u) (path both f.0)) f.1.1 in
      trail_keeps both (holds n) above_holds (length (ids both)) f.0 u (of_own f.0 parts.0) parts.1

  kept_is : (u : NodeId) → kept both u ≡ holds n u
  kept_is u = both_ways (kept both u) (holds n u) (of_kept u) (kept_of u)

  -- a column of the join
  column : {A : Type 0} (J N : Option A) (b : Bool) (g : Option A) (u : NodeId) → J ≡ cond b g None → b ≡ holds n u → (holds n u ≡ true → g ≡ N) → (holds n u ≡ false → N ≡ None) → J ≡ N
  column J N b g u is same some none =
      elim (decide (holds n u)) [
        | inl h ↦ is ∙ ap (λ c. cond c g None) (same ∙ h) ∙ some h
        | inr h ↦ is ∙ ap (λ c. cond c g None) (same ∙ h) ∙ sym (none h)
      ]

  same_entries : (join both).entries ≡ n.entries
  same_entries = same_map id_order.total id_order.same (join both).entries n.entries (λ u.
      column (get (join both).entries u) (get n.entries u) (kept both u) (gather (unite stats_join) (map (λ (x : Db). get x.entries u) both)) u
      (join_entries both u) (kept_is u)
      (λ h. ap (join_options (unite stats_join) (get m.entries u)) (merged_none versions_joins (get n.entries u)) ∙ grows.entries u h)
      (λ h. none_of (get n.entries u) (or_false (contains_key n.entries u) (contains_key n.groups u) h).0))

  same_groups : (join both).groups ≡ n.groups
  same_groups = same_map id_order.total id_order.same (join both).groups n.groups (λ u.
      column (get (join both).groups u) (get n.groups u) (kept both u) (gather state_join (map (λ (x : Db). get x.groups u) both)) u
      (join_groups both u) (kept_is u)
      (λ h. ap (join_options state_join (get m.groups u)) (merged_none state_joins (get n.groups u)) ∙ grows.groups u h)
      (λ h. none_of (get n.groups u) (or_false (contains_key n.entries u) (contains_key n.groups u) h).1))

  same_places : (join both).places ≡ n.places
  same_places = same_map id_order.total id_order.same (join both).places n.places (λ u.
      column (get (join both).places u) (get n.places u) (kept both u) (latest both u) u (join_places both u) (kept_is u) (latest_is u)
      (λ h. none_of (get n.places u) (sound.placed u (λ p. apart (holds n u) (ap (holds n) p ∙ root_holds) h) ∙ h)))

  same_tombs : (join both).tombs ≡ n.tombs
  same_tombs = same_map id_order.total id_order.same (join both).tombs n.tombs (λ u.
      join_tombs both u
      ∙ ap (λ b. cond (not b) (gather max (map (λ (x : Db). get x.tombs u) both)) None) (kept_is u)
      ∙ elim (decide (holds n u)) [
        | inl h ↦ ap (λ b. cond (not b) (gather max (map (λ (x : Db). get x.tombs u) both)) None) h ∙ sym (sound.alive u h)
        | inr h ↦
            ap (λ b. cond (not b) (gather max (map (λ (x : Db). get x.tombs u) both)) None) h
            ∙ ap (join_options max (get m.tombs u)) (merged_none max_join (get n.tombs u)) ∙ grows.tombs u h
      ])

  same_meta : (join both).meta ≡ n.meta
  same_meta = join_meta both ∙ grows.meta

  pub grown : join both ≡ n
  grown = λ i. record {
    root = (join_root both ∙ grows.root) i;
    entries = same_entries i;
    groups = same_groups i;
    places = same_places i;
    tombs = same_tombs i;
    meta = same_meta i;
  }
