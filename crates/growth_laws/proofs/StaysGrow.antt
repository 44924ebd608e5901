-- A document in which all stays that another has is that other, grown.
use Rattle.std.proofs.Common.{◌≡◌, ◌≤◌, ℕ, true, false, inl, inr, List, [], ◌∷◌, Option, None, Some, is_some, map, max, refl, sym, ap, ◌∙◌, arith}
use Rattle.std.proofs.lemmas.Bool.{le-leb}
use Rattle.std.specs.FinMap.{get, contains_key}
use Rattle.std.specs.List.{list_all}
use Rattle.std.specs.Option.{option_map}
use Rattle.std.specs.Ordering.{is_lt, ordering_reverse}
use Rattle.std.specs.declared.cmp.Ordering.{Ordering}
use Rattle.std.specs.declared.cmp.Ordering.TheVariants.{Less, Equal, Greater}
use Rattle.vault_model.specs.declared.nodes.GroupState.{GroupState}
use Rattle.vault_model.specs.declared.nodes.Tombstone.{Tombstone}
use Rattle.vault_model.specs.Db.{Db, NodeId, Place, Versions, holds, id_cmp, newest, place_cmp, stamp_in, state_time}
use Rattle.vault_model.specs.Join.{is_from, is_id, join, meta_join, stamp, state_join, stats_join}
use Rattle.vault_model.specs.Proper.{rises}
use Rattle.vault_model.specs.SeenNodes.{entry_time}
use Rattle.vault_model.specs.Shape.{GroupRecord, shared_of, versions_of}
use Rattle.vault_model.specs.Tree.{BareDoc, IsDoc, db_in, shape_of}
use Rattle.vault_model.specs.Unite.{greater, join_options, unite}
use Rattle.vault_model.proofs.Ids.{same_id}
use Rattle.vault_model.proofs.Orders.{id_order}
use Rattle.vault_model.proofs.Tests.{and_true, apart, decide, from_map, in_map, is_false, none_of, or_cases, or_false, or_left, or_right, some_of}
use Rattle.vault_model.specs.Join.{IsIn}
use Rattle.merge_core.proofs.Laid.{db_entries, db_groups}
use Rattle.merge_core.proofs.SoundDoc.{db_root, db_shared, db_tomb, document_sound, entry_at, group_at}
use Rattle.merge_core.proofs.Tables.{find_in}
use Rattle.tree_core.proofs.Counted.{occurs, one_if}
use Rattle.tree_core.proofs.Rows.{keys}
use Rattle.growth_laws.proofs.Grown.{grown}
use Rattle.growth_laws.proofs.Stays.{Buried, GroupAfter, Stays, entry_is, group_is, row_found, versions_time}

-- ---- tombstones by their ids

abbrev tomb_rows : List Tombstone → List (NodeId × ℕ)
tomb_rows ts = map (λ (t : Tombstone). (t.id, t.deleted)) ts

not_less : (r : Ordering) → r ≡ ordering_reverse r → is_lt r ≡ false
not_less Less e = cc e
not_less Equal e = refl
not_less Greater e = refl

-- an id is not below itself
less_other : (u v : NodeId) → is_lt (id_cmp u v) ≡ true → is_id u v ≡ false
less_other u v less = is_false (is_id u v) (λ p.
    apart (is_lt (id_cmp u u)) (ap (λ w. is_lt (id_cmp u w)) (same_id u v p) ∙ less) (not_less (id_cmp u u) (id_order.total.antisymm u u)))

none_above : (u : NodeId) (ts : List Tombstone) → list_all (λ (t : Tombstone). is_lt (id_cmp u t.id)) ts ≡ true → occurs u (keys (tomb_rows ts)) ≡ 0
none_above u [] all = refl
none_above u (t ∷ ts) all =
    let both = and_true (is_lt (id_cmp u t.id)) (list_all (λ (x : Tombstone). is_lt (id_cmp u x.id)) ts) all in
    let here = ap one_if (less_other u t.id both.0) in
    let rest = none_above u ts both.1 in
    omega (arith, here, rest)

rises_once : (ts : List Tombstone) → rises (λ (t : Tombstone). t.id) ts ≡ true → (u : NodeId) → occurs u (keys (tomb_rows ts)) ≤ 1
rises_once [] rise u = omega arith
rises_once (t ∷ ts) rise u =
    let both = and_true (list_all (λ (x : Tombstone). is_lt (id_cmp t.id x.id)) ts) (rises (λ (x : Tombstone). x.id) ts) rise in
    elim (decide (is_id u t.id)) [
      | inl p ↦
          let one = ap one_if p in
          let zero = none_above t.id ts both.0 in
          let same = ap (λ v. occurs v (keys (tomb_rows ts))) (same_id u t.id p) in
          omega (arith, one, zero, same)
      | inr p ↦ let none_here = ap one_if p in let rest = rises_once ts both.1 u in omega (arith, none_here, rest)
    ]

tomb_is : (d : BareDoc) → IsDoc d → (t : Tombstone) → IsIn t d.tombs → get (db_in d).tombs t.id ≡ Some t.deleted
tomb_is d is t i =
    db_tomb d is t.id
    ∙ row_found (tomb_rows d.tombs) t.id t.deleted (in_map (λ (x : Tombstone). (x.id, x.deleted)) d.tombs t i) (rises_once d.tombs is.tombs_rise t.id)

buried_is : (e : BareDoc) → IsDoc e → (u : NodeId) (time : ℕ) → (b : Buried u time e) → get (db_in e).tombs u ≡ Some b.tomb.deleted
buried_is e is u time b = ap (get (db_in e).tombs) (sym b.id) ∙ tomb_is e is b.tomb b.is

tomb_at : (d : BareDoc) → IsDoc d → (u : NodeId) (time : ℕ) → get (db_in d).tombs u ≡ Some time → (t : Tombstone) × (IsIn t d.tombs × ((t.id ≡ u) × (t.deleted ≡ time)))
tomb_at d is u time q =
    let row = find_in id_order.total id_order.same (tomb_rows d.tombs) u time (sym (db_tomb d is u) ∙ q) in
    let f = from_map (λ (t : Tombstone). (t.id, t.deleted)) d.tombs (u, time) row in
    (f.0, (f.1.0, (ap (λ (x : NodeId × ℕ). x.0) f.1.1, ap (λ (x : NodeId × ℕ). x.1) f.1.1)))

-- ---- what stays has only grown

module _ (d e : BareDoc) (isd : IsDoc d) (ise : IsDoc e) (stays : Stays d e) where
  abbrev m : Db
  m = db_in d

  abbrev n : Db
  n = db_in e

  -- what has a tombstone is not held
  buried_gone : {A : Type 0} (u : NodeId) (time : ℕ) → Buried u time e → holds n u ≡ true → A
  buried_gone u time b h = apart (is_some (get n.tombs u)) (ap is_some (buried_is e ise u time b)) (ap is_some ((document_sound e ise).alive u h))

  group_now : (u : NodeId) (r : GroupRecord) (a : GroupAfter u r e) → get n.groups u ≡ Some a.after.state
  group_now u r a = db_groups (shape_of e) u ∙ ap (option_map (λ (g : GroupRecord). g.state)) (group_is e ise u a.after a.row)

  entries_grew : (u : NodeId) (o : Option Versions) → get m.entries u ≡ o → holds n u ≡ true → join_options (unite stats_join) o (get n.entries u) ≡ get n.entries u
  entries_grew u None q h = refl
  entries_grew u (Some v) q h =
      let x = entry_at d isd u v q in
      elim (stays.entries u x.0 x.1.0) [
        | inl a ↦
            let now = db_entries (shape_of e) u ∙ ap (option_map versions_of) (entry_is e ise u a.after a.row) in
            ap (λ w. join_options (unite stats_join) (Some w) (get n.entries u)) (sym x.1.1) ∙ ap (join_options (unite stats_join) (Some (versions_of x.0))) now ∙ ap Some a.more ∙ sym now
        | inr b ↦ buried_gone u (entry_time x.0) b h
      ]

  groups_grew : (u : NodeId) (o : Option GroupState) → get m.groups u ≡ o → holds n u ≡ true → join_options state_join o (get n.groups u) ≡ get n.groups u
  groups_grew u None q h = refl
  groups_grew u (Some s) q h =
      let r = group_at d isd u s q in
      elim (stays.groups u r.0 r.1.0) [
        | inl a ↦
            let now = group_now u r.0 a in
            ap (λ w. join_options state_join (Some w) (get n.groups u)) (sym r.1.1) ∙ ap (join_options state_join (Some r.0.state)) now ∙ ap Some a.more ∙ sym now
        | inr b ↦ buried_gone u r.0.state.modified b h
      ]

  places_grew : (u : NodeId) (o : Option Place) → get m.places u ≡ o → holds n u ≡ true → join_options (greater place_cmp) o (get n.places u) ≡ get n.places u
  places_grew u None q h = refl
  places_grew u (Some p) q h =
      elim (stays.places u p q) [
        | inl a ↦ ap (join_options (greater place_cmp) (Some p)) a.is ∙ ap Some a.later ∙ sym a.is
        | inr b ↦ buried_gone u 0 b h
      ]

  was_alive : (u : NodeId) (o : Option ℕ) → get m.tombs u ≡ o → holds n u ≡ true → o ≡ None
  was_alive u None q h = refl
  was_alive u (Some time) q h =
      let t = tomb_at d isd u time q in
      let b = stays.tombs t.0 t.1.0 in
      buried_gone u t.0.deleted (record { tomb = b.tomb; is = b.is; id = b.id ∙ t.1.1.0; late = b.late }) h

  tombs_grew : (u : NodeId) (o : Option ℕ) → get m.tombs u ≡ o → join_options max o (get n.tombs u) ≡ get n.tombs u
  tombs_grew u None q = refl
  tombs_grew u (Some time) q =
      let t = tomb_at d isd u time q in
      let b = stays.tombs t.0 t.1.0 in
      let now = ap (get n.tombs) (sym t.1.1.0) ∙ buried_is e ise t.0.id t.0.deleted b in
      let late = b.late in
      let was = t.1.1.1 in
      let most : max time b.tomb.deleted ≡ b.tomb.deleted = omega (arith, late, was) in
      ap (join_options max (Some time)) now ∙ ap Some most ∙ sym now

  -- the stamp of what is gone
  stamp_of_entry : (u : NodeId) (v : Versions) (time : ℕ) → get m.entries u ≡ Some v → newest (Some v) ≤ time → holds n u ≡ false → stamp (m ∷ n ∷ []) u ≤ time
  unfolding stamp_in
  stamp_of_entry u v time q late off =
      let parts = or_false (contains_key n.entries u) (contains_key n.groups u) off in
      let no_group = none_of (get m.groups u) ((document_sound d isd).kinds u (ap is_some q)) in
      let one = ap newest q in
      let two = ap state_time no_group in
      let three = ap newest (none_of (get n.entries u) parts.0) in
      let four = ap state_time (none_of (get n.groups u) parts.1) in
      omega (arith, one, two, three, four, late)

  stamp_of_group : (u : NodeId) (s : GroupState) (time : ℕ) → get m.groups u ≡ Some s → s.modified ≤ time → holds n u ≡ false → stamp (m ∷ n ∷ []) u ≤ time
  unfolding stamp_in
  stamp_of_group u s time q late off =
      let parts = or_false (contains_key n.entries u) (contains_key n.groups u) off in
      let no_entry : get m.entries u ≡ None = none_of (get m.entries u) (is_false (contains_key m.entries u) (λ h.
      apart (contains_key m.groups u) (ap is_some q) ((document_sound d isd).kinds u h))) in
      let one = ap newest no_entry in
      let two = ap state_time q in
      let three = ap newest (none_of (get n.entries u) parts.0) in
      let four = ap state_time (none_of (get n.groups u) parts.1) in
      omega (arith, one, two, three, four, late)

  buried_late : (u : NodeId) (time : ℕ) (b : Buried u time e) → stamp (m ∷ n ∷ []) u ≤ b.tomb.deleted → is_from (stamp (m ∷ n ∷ []) u) (get n.tombs u) ≡ true
  buried_late u time b late = ap (is_from (stamp (m ∷ n ∷ []) u)) (buried_is e ise u time b) ∙ le-leb (stamp (m ∷ n ∷ []) u) b.tomb.deleted late

  gone_late : (u : NodeId) → holds n u ≡ false → holds m u ≡ true → is_from (stamp (m ∷ n ∷ []) u) (get n.tombs u) ≡ true
  gone_late u off h =
      elim (or_cases (contains_key m.entries u) (contains_key m.groups u) h) [
        | inl k ↦
            let v = some_of (get m.entries u) k in
            let x = entry_at d isd u v.0 v.1 in
            elim (stays.entries u x.0 x.1.0) [
              | inl a ↦ apart (holds n u) (or_left (contains_key n.entries u) (contains_key n.groups u)
                  (ap is_some (db_entries (shape_of e) u ∙ ap (option_map versions_of) (entry_is e ise u a.after a.row)))) off
              | inr b ↦
                  let new = versions_time x.0 in
                  let same = ap (λ w. newest (Some w)) x.1.1 in
                  let late = b.late in
                  buried_late u (entry_time x.0) b (stamp_of_entry u v.0 b.tomb.deleted v.1 (omega (arith, new, same, late)) off)
            ]
        | inr k ↦
            let s = some_of (get m.groups u) k in
            let r = group_at d isd u s.0 s.1 in
            elim (stays.groups u r.0 r.1.0) [
              | inl a ↦ apart (holds n u) (or_right (contains_key n.entries u) (contains_key n.groups u) (ap is_some (group_now u r.0 a))) off
              | inr b ↦
                  let same = ap (λ (w : GroupState). w.modified) r.1.1 in
                  let late = b.late in
                  buried_late u r.0.state.modified b (stamp_of_group u s.0 b.tomb.deleted s.1 (omega (arith, same, late)) off)
            ]
      ]

  pub stays_grow : join (m ∷ n ∷ []) ≡ n
  stays_grow = grown m n (document_sound e ise) (record {
    root = db_root d isd ∙ stays.root ∙ sym (db_root e ise);
    entries = λ u h. entries_grew u (get m.entries u) refl h;
    groups = λ u h. groups_grew u (get m.groups u) refl h;
    places = λ u h. places_grew u (get m.places u) refl h;
    alive = λ u h. was_alive u (get m.tombs u) refl h;
    gone = gone_late;
    tombs = λ u off. tombs_grew u (get m.tombs u) refl;
    meta = ap (λ x. meta_join x n.meta) (db_shared d isd) ∙ ap (meta_join (shared_of d.meta)) (db_shared e ise) ∙ stays.meta ∙ sym (db_shared e ise);
  })
