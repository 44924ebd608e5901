-- Of two documents with the same nodes, one as it was at an earlier moment: what is current of their join is what is current of the later one.
use Rattle.std.proofs.Common.{◌≡◌, ℕ, Bool, true, false, not, cond, inl, inr, List, [], ◌∷◌, Option, Some, None, is_some, map, max, refl, sym, ap, subst, ◌∙◌}
use Rattle.std.specs.FinMap.{contains_key, get, same_map}
use Rattle.std.specs.Option.{option_map}
use Rattle.growth_laws.proofs.Stays.{KidAfter, PlaceAfter, entry_is, entry_stay, group_is, group_stay, places_stay}
use Rattle.growth_laws.proofs.Steps.{kid_later, kid_stay}
use Rattle.history_laws.proofs.CurrentJoin.{same_view}
use Rattle.history_laws.proofs.Newest.{currents}
use Rattle.history_laws.specs.Current.{current, current_view}
use Rattle.import_again_laws.proofs.Later.{LaterEntry, LaterGroup, LaterStay, LaterTree, beside_one, later_children, later_entries, later_groups, later_root, same_under}
use Rattle.import_laws.proofs.Alike.{IsAlike, alike_agree}
use Rattle.import_laws.proofs.Bare.{entry_id}
use Rattle.import_laws.proofs.Kept.{held, no_tomb, stays}
use Rattle.merge_core.proofs.Facts.{join_entries, join_groups, join_places, join_root, join_tombs, placed_held}
use Rattle.merge_core.proofs.Joins.{meta_joins}
use Rattle.merge_core.proofs.Laid.{db_entries, db_groups}
use Rattle.merge_core.proofs.SoundDoc.{IsKid, below_node, db_root, db_shared, document_sound, entry_at, entry_there, group_at, group_there, is_node, kid_below, kid_place, place_kid}
use Rattle.merge_core.proofs.SoundJoin.{join_meta}
use Rattle.vault_model.proofs.Orders.{id_order}
use Rattle.vault_model.proofs.Tests.{apart, from_map, in_map, is_false, none_of, or_right, some_of}
use Rattle.vault_model.specs.Db.{Db, NodeId, Place, Versions, holds, place_cmp}
use Rattle.vault_model.specs.Join.{Agreed, IsIn, join, kept, meta_join, state_join, stats_join}
use Rattle.vault_model.specs.Shape.{Children, GroupRecord, Stay, shared_of, stay_of, versions_of}
use Rattle.vault_model.specs.Tree.{BareDoc, IsDoc, child_rows, db_in, entry_rows, group_rows, shape_of}
use Rattle.vault_model.specs.Unite.{gather, greater, unite}
use Rattle.vault_model.specs.declared.nodes.GroupState.{GroupState}
use Rattle.vault_model.specs.declared.nodes.Tombstone.{Tombstone}

-- nothing is there, whatever is kept
nothing : {A : Type 0} (b : Bool) → (let o : Option A = cond b None None in o) ≡ None
nothing true = refl
nothing false = refl

module _ (d e : BareDoc) (is : IsDoc d) (too : IsDoc e) (later : LaterTree d.tree e.tree) (first : d.tombs ≡ []) (second : e.tombs ≡ []) (metas : d.meta ≡ e.meta) where
  abbrev m : Db
  m = db_in d

  abbrev n : Db
  n = db_in e

  abbrev both : List Db
  both = m ∷ n ∷ []

  pub alike : IsAlike d e
  alike = record {
    root = later_root d.tree e.tree later;
    children = later_children d.tree e.tree later;
    entries = same_under LaterEntry entry_id (λ x y l. l.id) (entry_rows d.tree) (entry_rows e.tree) (later_entries d.tree e.tree later);
    no_tombs = (first, second);
  }

  agreed : Agreed both
  agreed = alike_agree d e is too alike

  kept_here : (u : NodeId) → holds m u ≡ true → kept both u ≡ true
  kept_here u h = stays d e is too first second agreed m u (inl refl) h

  -- ---- entries

  entry_after : (u : NodeId) (v : Versions) → get m.entries u ≡ Some v → (w : Versions) × ((get n.entries u ≡ Some w) × (current (unite stats_join v w) ≡ current w))
  entry_after u v q =
      let x = entry_at d is u v q in
      let y = beside_one LaterEntry (entry_rows d.tree) (entry_rows e.tree) (later_entries d.tree e.tree later) (u, x.0) x.1.0 in
      let here : IsIn (u, y.0.1) (entry_rows e.tree) = subst (λ (k : NodeId). IsIn (k, y.0.1) (entry_rows e.tree)) (sym y.1.1.id) y.1.0 in (
        versions_of y.0.1,
        (
          db_entries (shape_of e) u ∙ ap (option_map versions_of) (entry_is e too u y.0.1 here),
          ap (λ (w : Versions). current (unite stats_join w (versions_of y.0.1))) (sym x.1.1) ∙ y.1.1.versions,
        ),
      )

  no_entry_after : (u : NodeId) → get m.entries u ≡ None → get n.entries u ≡ None
  no_entry_after u q = none_of (get n.entries u) (is_false (contains_key n.entries u) (λ h.
      let v = some_of (get n.entries u) h in
      let x = entry_at e too u v.0 v.1 in
      let moved = subst (λ (us : List NodeId). IsIn u us) (sym alike.entries) (in_map entry_id (entry_rows e.tree) (u, x.0) x.1.0) in
      let found = from_map entry_id (entry_rows d.tree) u moved in
      let there = entry_there d is u found.0.1 (subst (λ (k : NodeId). IsIn (k, found.0.1) (entry_rows d.tree)) found.1.1 found.1.0) in
      apart (contains_key m.entries u) there (ap is_some q)))

  entries_now : (u : NodeId) → currents (get (join both).entries u) ≡ currents (get n.entries u)
  entries_now u = ap currents (join_entries both u) ∙ at (get m.entries u) refl
    where
      at : (o : Option Versions) → get m.entries u ≡ o
          → currents (cond (kept both u) (gather (unite stats_join) (get m.entries u ∷ get n.entries u ∷ [])) None) ≡ currents (get n.entries u)
      at None q =
          let none = no_entry_after u q in
          ap (λ (p : Option Versions). currents (cond (kept both u) (gather (unite stats_join) (p ∷ get n.entries u ∷ [])) None)) q
          ∙ ap (λ (p : Option Versions). currents (cond (kept both u) (gather (unite stats_join) (None ∷ p ∷ [])) None)) none
          ∙ ap currents (nothing (kept both u))
          ∙ sym (ap currents none)
      at (Some v) q =
          let w = entry_after u v q in
          ap (λ b. currents (cond b (gather (unite stats_join) (get m.entries u ∷ get n.entries u ∷ [])) None)) (kept_here u (held m u v q))
          ∙ ap (λ (p : Option Versions). currents (gather (unite stats_join) (p ∷ get n.entries u ∷ []))) q
          ∙ ap (λ (p : Option Versions). currents (gather (unite stats_join) (Some v ∷ p ∷ []))) w.1.0
          ∙ ap (λ (x : Versions). Some x) w.1.1
          ∙ sym (ap currents w.1.0)

  -- ---- groups

  group_after : (u : NodeId) (g : GroupState) → get m.groups u ≡ Some g → (h : GroupState) × ((get n.groups u ≡ Some h) × (state_join g h ≡ h))
  group_after u g q =
      let x = group_at d is u g q in
      let y = beside_one LaterGroup (group_rows d.tree) (group_rows e.tree) (later_groups d.tree e.tree later) (u, x.0) x.1.0 in
      let here : IsIn (u, y.0.1) (group_rows e.tree) = subst (λ (k : NodeId). IsIn (k, y.0.1) (group_rows e.tree)) (sym y.1.1.id) y.1.0 in (
        y.0.1.state,
        (
          db_groups (shape_of e) u ∙ ap (option_map (λ (r : GroupRecord). r.state)) (group_is e too u y.0.1 here),
          ap (λ (s : GroupState). state_join s y.0.1.state) (sym x.1.1) ∙ y.1.1.state,
        ),
      )

  group_row : (u : NodeId) → contains_key n.groups u ≡ true → contains_key m.groups u ≡ true
  group_row u h =
      let s = some_of (get n.groups u) h in
      let x = group_at e too u s.0 s.1 in
      let moved = subst (λ (us : List NodeId). IsIn u us) (sym group_ids) (in_map (λ (row : NodeId × GroupRecord). row.0) (group_rows e.tree) (u, x.0) x.1.0) in
      let found = from_map (λ (row : NodeId × GroupRecord). row.0) (group_rows d.tree) u moved in
      group_there d is u found.0.1 (subst (λ (k : NodeId). IsIn (k, found.0.1) (group_rows d.tree)) found.1.1 found.1.0)
    where
      group_ids : map (λ (row : NodeId × GroupRecord). row.0) (group_rows d.tree) ≡ map (λ (row : NodeId × GroupRecord). row.0) (group_rows e.tree)
      group_ids = same_under LaterGroup (λ (row : NodeId × GroupRecord). row.0) (λ x y l. l.id) (group_rows d.tree) (group_rows e.tree) (later_groups d.tree e.tree later)

  groups_now : (u : NodeId) → get (join both).groups u ≡ get n.groups u
  groups_now u = join_groups both u ∙ at (get m.groups u) refl
    where
      at : (o : Option GroupState) → get m.groups u ≡ o → cond (kept both u) (gather state_join (get m.groups u ∷ get n.groups u ∷ [])) None ≡ get n.groups u
      at None q =
          let none : get n.groups u ≡ None = none_of (get n.groups u) (is_false (contains_key n.groups u) (λ h. apart (contains_key m.groups u) (group_row u h) (ap is_some q))) in
          ap (λ (p : Option GroupState). cond (kept both u) (gather state_join (p ∷ get n.groups u ∷ [])) None) q
          ∙ ap (λ (p : Option GroupState). cond (kept both u) (gather state_join (None ∷ p ∷ [])) None) none
          ∙ nothing (kept both u)
          ∙ sym none
      at (Some g) q =
          let h = group_after u g q in
          ap (λ b. cond b (gather state_join (get m.groups u ∷ get n.groups u ∷ [])) None) (kept_here u (or_right (contains_key m.entries u) (contains_key m.groups u) (ap is_some q)))
          ∙ ap (λ (p : Option GroupState). gather state_join (p ∷ get n.groups u ∷ [])) q
          ∙ ap (λ (p : Option GroupState). gather state_join (Some g ∷ p ∷ [])) h.1.0
          ∙ ap (λ (s : GroupState). Some s) h.1.1
          ∙ sym h.1.0

  -- ---- places

  stay_after : (u : NodeId) → LaterStay (stay_of (shape_of d) u) (stay_of (shape_of e) u) → (g : NodeId) → IsKid (child_rows e.tree) g u → KidAfter g u (stay_of (shape_of d) u) e
  stay_after u (inl less) g kid = kid_later d e g g u kid less
  stay_after u (inr same) g kid = kid_stay d e is too g u same kid

  node_stay : (g u : NodeId) → IsKid (child_rows d.tree) g u → LaterStay (stay_of (shape_of d) u) (stay_of (shape_of e) u)
  node_stay g u kid = elim (is_node d.tree u (below_node d.tree u (kid_below d.tree g u kid))) [
    | inl x ↦
        let y = beside_one LaterEntry (entry_rows d.tree) (entry_rows e.tree) (later_entries d.tree e.tree later) (u, x.0) x.1 in
        let here : IsIn (u, y.0.1) (entry_rows e.tree) = subst (λ (k : NodeId). IsIn (k, y.0.1) (entry_rows e.tree)) (sym y.1.1.id) y.1.0 in
        subst (λ (s : Stay). LaterStay s (stay_of (shape_of e) u)) (sym (entry_stay d is u x.0 x.1))
        (subst (λ (s : Stay). LaterStay (record { placed = x.0.placed; previous = x.0.previous }) s) (sym (entry_stay e too u y.0.1 here)) y.1.1.stay)
    | inr x ↦
        let y = beside_one LaterGroup (group_rows d.tree) (group_rows e.tree) (later_groups d.tree e.tree later) (u, x.0) x.1 in
        let here : IsIn (u, y.0.1) (group_rows e.tree) = subst (λ (k : NodeId). IsIn (k, y.0.1) (group_rows e.tree)) (sym y.1.1.id) y.1.0 in
        subst (λ (s : Stay). LaterStay s (stay_of (shape_of e) u)) (sym (group_stay d is u x.0 x.1))
        (subst (λ (s : Stay). LaterStay (record { placed = x.0.placed; previous = x.0.previous }) s) (sym (group_stay e too u y.0.1 here)) y.1.1.stay)
  ]

  kid_now : (g u : NodeId) → IsKid (child_rows d.tree) g u → IsKid (child_rows e.tree) g u
  kid_now g u kid = subst (λ (rows : List (NodeId × Children)). IsKid rows g u) alike.children kid

  place_after : (u : NodeId) (p : Place) → get m.places u ≡ Some p → PlaceAfter u p e
  place_after u p q = elim (places_stay d e is too (λ g v kid. inl (stay_after v (node_stay g v kid) g (kid_now g v kid))) u p q) [
    | inl after ↦ after
    | inr buried ↦ absurd (subst (λ (ts : List Tombstone). IsIn buried.tomb ts) second buried.is)
  ]

  no_place_after : (u : NodeId) → get m.places u ≡ None → get n.places u ≡ None
  no_place_after u q = none_of (get n.places u) (is_false (contains_key n.places u) (λ h.
      let p = some_of (get n.places u) h in
      let kid = place_kid e too u p.0 p.1 in
      let there = kid_place d is p.0.parent u (subst (λ (rows : List (NodeId × Children)). IsKid rows p.0.parent u) (sym alike.children) kid) in
      apart (contains_key m.places u) (ap is_some there.1.0) (ap is_some q)))

  places_now : (u : NodeId) → get (join both).places u ≡ get n.places u
  places_now u = join_places both u ∙ at (get m.places u) refl
    where
      at : (o : Option Place) → get m.places u ≡ o → cond (kept both u) (gather (greater place_cmp) (get m.places u ∷ get n.places u ∷ [])) None ≡ get n.places u
      at None q =
          let none = no_place_after u q in
          ap (λ (p : Option Place). cond (kept both u) (gather (greater place_cmp) (p ∷ get n.places u ∷ [])) None) q
          ∙ ap (λ (p : Option Place). cond (kept both u) (gather (greater place_cmp) (None ∷ p ∷ [])) None) none
          ∙ nothing (kept both u)
          ∙ sym none
      at (Some p) q =
          let a = place_after u p q in
          ap (λ b. cond b (gather (greater place_cmp) (get m.places u ∷ get n.places u ∷ [])) None) (kept_here u (placed_held m u p (document_sound d is) q).1)
          ∙ ap (λ (o : Option Place). gather (greater place_cmp) (o ∷ get n.places u ∷ [])) q
          ∙ ap (λ (o : Option Place). gather (greater place_cmp) (Some p ∷ o ∷ [])) a.is
          ∙ ap (λ (x : Place). Some x) a.later
          ∙ sym a.is

  -- ---- all of it

  tombs_now : (u : NodeId) → get (join both).tombs u ≡ get n.tombs u
  tombs_now u =
      join_tombs both u
      ∙ ap (λ (o : Option ℕ). cond (not (kept both u)) (gather max (o ∷ get n.tombs u ∷ [])) None) (no_tomb d is first u)
      ∙ ap (λ (o : Option ℕ). cond (not (kept both u)) (gather max (None ∷ o ∷ [])) None) (no_tomb e too second u)
      ∙ nothing (not (kept both u))
      ∙ sym (no_tomb e too second u)

  meta_now : (join both).meta ≡ n.meta
  meta_now =
      let same : m.meta ≡ n.meta = db_shared d is ∙ ap shared_of metas ∙ sym (db_shared e too) in
      join_meta both ∙ ap (λ s. meta_join s n.meta) same ∙ meta_joins.idem n.meta

  pub replaced : current_view (join both) ≡ current_view n
  replaced =
      same_view (join both) n (join_root both ∙ db_root d is ∙ alike.root ∙ sym (db_root e too)) entries_now
      (same_map id_order.total id_order.same (join both).groups n.groups groups_now)
      (same_map id_order.total id_order.same (join both).places n.places places_now)
      (same_map id_order.total id_order.same (join both).tombs n.tombs tombs_now) meta_now
