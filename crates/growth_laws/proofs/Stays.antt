-- What each row of a document is after a change, and that what stays so has only grown.
use Rattle.std.proofs.Common.{◌≡◌, ◌≤◌, ◌+◌, ◌⊎◌, ℕ, cond, inl, inr, List, [], ◌∷◌, ◌++◌, None, Some, map, sym, ap, ◌∙◌, arith}
use Rattle.std.specs.FinMap.{find, get, entries, keys as map_keys}
use Rattle.vault_model.specs.declared.nodes.Tombstone.{Tombstone}
use Rattle.vault_model.specs.Db.{Mark, NodeId, Place, id_cmp, newest, place_cmp}
use Rattle.vault_model.specs.Join.{IsIn, is_id, meta_join, state_join, stats_join}
use Rattle.vault_model.specs.SeenNodes.{entry_time}
use Rattle.vault_model.specs.Shape.{BareVersion, Children, EntryRecord, GroupRecord, Stay, place_at, place_rows, shared_of, stay_of, stay_or, versions_of}
use Rattle.vault_model.specs.Tree.{BareDoc, IsDoc, child_rows, db_in, entry_rows, group_rows, id_of, node_ids, shape_of}
use Rattle.vault_model.specs.Unite.{greater, unite}
use Rattle.vault_model.proofs.Ids.{id_itself}
use Rattle.vault_model.proofs.Orders.{id_order, mark_order}
use Rattle.vault_model.proofs.Tests.{decide, from_flat, from_map, greatest_above, greatest_below, in_map, some_of}
use Rattle.merge_core.proofs.Joins.{meta_joins, places_joins, state_joins, versions_joins}
use Rattle.merge_core.proofs.SoundDoc.{IsKid, db_place, kid_place, place_kid, shape_entry, shape_group, version_marks}
use Rattle.merge_core.proofs.Tables.{find_in}
use Rattle.merge_core.proofs.Unite.{from_keys}
use Rattle.tree_core.proofs.Counted.{occurs, once, one_if}
use Rattle.tree_core.proofs.Rows.{keys, none_found}
use Rattle.tree_removals.proofs.ManyTombs.{rows_count}

-- ---- rows after a change

-- An id has a tombstone from a time on.
pub record Buried (u : NodeId) (time : ℕ) (e : BareDoc) : Type 0 where
  pub tomb : Tombstone
  pub is : IsIn tomb e.tombs
  pub id : tomb.id ≡ u
  pub late : time ≤ tomb.deleted

-- An entry is there with all its versions.
pub record EntryAfter (u : NodeId) (x : EntryRecord) (e : BareDoc) : Type 0 where
  pub after : EntryRecord
  pub row : IsIn (u, after) (entry_rows e.tree)
  pub more : unite stats_join (versions_of x) (versions_of after) ≡ versions_of after
  pub time : entry_time x ≤ entry_time after

-- A group is there in its greatest state.
pub record GroupAfter (u : NodeId) (r : GroupRecord) (e : BareDoc) : Type 0 where
  pub after : GroupRecord
  pub row : IsIn (u, after) (group_rows e.tree)
  pub more : state_join r.state after.state ≡ after.state
  pub time : r.state.modified ≤ after.state.modified

-- A node is at its latest place.
pub record PlaceAfter (u : NodeId) (p : Place) (e : BareDoc) : Type 0 where
  pub after : Place
  pub is : get (db_in e).places u ≡ Some after
  pub later : greater place_cmp p after ≡ after

-- All that a document has is there after a change, or was deleted.
pub record Stays (d e : BareDoc) : Type 0 where
  pub entries : (u : NodeId) (x : EntryRecord) → IsIn (u, x) (entry_rows d.tree) → EntryAfter u x e ⊎ Buried u (entry_time x) e
  pub groups : (u : NodeId) (r : GroupRecord) → IsIn (u, r) (group_rows d.tree) → GroupAfter u r e ⊎ Buried u r.state.modified e
  pub places : (u : NodeId) (p : Place) → get (db_in d).places u ≡ Some p → PlaceAfter u p e ⊎ Buried u 0 e
  pub tombs : (t : Tombstone) → IsIn t d.tombs → Buried t.id t.deleted e
  pub root : id_of d.tree ≡ id_of e.tree
  pub meta : meta_join (shared_of d.meta) (shared_of e.meta) ≡ shared_of e.meta

-- ---- one change after another

still_buried : (d e : BareDoc) (u : NodeId) (time : ℕ) → ((t : Tombstone) → IsIn t d.tombs → Buried t.id t.deleted e) → Buried u time d → Buried u time e
still_buried d e u time tombs b =
    let after = tombs b.tomb b.is in
    let was = b.late in
    let now = after.late in
    record { tomb = after.tomb; is = after.is; id = after.id ∙ b.id; late = omega (arith, was, now) }

earlier : (u : NodeId) (one two : ℕ) (e : BareDoc) → one ≤ two → Buried u two e → Buried u one e
earlier u one two e less b = let was = b.late in record { tomb = b.tomb; is = b.is; id = b.id; late = omega (arith, less, was) }

after_join : {A : Type 0} (f : A → A → A) (x y z : A) → ((a b c : A) → f (f a b) c ≡ f a (f b c)) → f x y ≡ y → f y z ≡ z → f x z ≡ z
after_join f x y z assoc p q = ap (f x) (sym q) ∙ sym (assoc x y z) ∙ ap (λ w. f w z) p ∙ q

pub stays_then : (d e g : BareDoc) → Stays d e → Stays e g → Stays d g
stays_then d e g one two = record {
  entries = λ u x i. elim (one.entries u x i) [
    | inl a ↦ elim (two.entries u a.after a.row) [
      | inl b ↦
          let s = a.time in
          let t = b.time in
          inl (record {
            after = b.after;
            row = b.row;
            more = after_join (unite stats_join) (versions_of x) (versions_of a.after) (versions_of b.after) versions_joins.assoc a.more b.more;
            time = omega (arith, s, t);
          })
      | inr b ↦ inr (earlier u (entry_time x) (entry_time a.after) g a.time b)
    ]
    | inr b ↦ inr (still_buried e g u (entry_time x) two.tombs b)
  ];
  groups = λ u r i. elim (one.groups u r i) [
    | inl a ↦ elim (two.groups u a.after a.row) [
      | inl b ↦
          let s = a.time in
          let t = b.time in
          inl (record {
            after = b.after;
            row = b.row;
            more = after_join state_join r.state a.after.state b.after.state state_joins.assoc a.more b.more;
            time = omega (arith, s, t);
          })
      | inr b ↦ inr (earlier u r.state.modified a.after.state.modified g a.time b)
    ]
    | inr b ↦ inr (still_buried e g u r.state.modified two.tombs b)
  ];
  places = λ u p i. elim (one.places u p i) [
    | inl a ↦ elim (two.places u a.after a.is) [
      | inl b ↦ inl (record { after = b.after; is = b.is; later = after_join (greater place_cmp) p a.after b.after places_joins.assoc a.later b.later })
      | inr b ↦ inr b
    ]
    | inr b ↦ inr (still_buried e g u 0 two.tombs b)
  ];
  tombs = λ t i. still_buried e g t.id t.deleted two.tombs (one.tombs t i);
  root = one.root ∙ two.root;
  meta = after_join meta_join (shared_of d.meta) (shared_of e.meta) (shared_of g.meta) meta_joins.assoc one.meta two.meta;
}

-- ---- rows that are found by their ids

module _ {X : Type 0} where
  pub row_counts : (rows : List (NodeId × X)) (u : NodeId) (x : X) → IsIn (u, x) rows → 1 ≤ occurs u (keys rows)
  row_counts [] u x i = absurd i
  row_counts (r ∷ rows) u x (inl p) = let one = ap (λ (w : NodeId × X). one_if (is_id u w.0)) p in let here = ap one_if (id_itself u) in omega (arith, one, here)
  row_counts (r ∷ rows) u x (inr i) = let rest = row_counts rows u x i in omega (arith, rest)

  pub row_found : (rows : List (NodeId × X)) (u : NodeId) (x : X) → IsIn (u, x) rows → occurs u (keys rows) ≤ 1 → find id_cmp u rows ≡ Some x
  row_found [] u x i most = absurd i
  row_found (r ∷ rows) u x (inl p) most =
      ap (λ (w : NodeId × X). cond (is_id u w.0) (Some w.1) (find id_cmp u rows)) p ∙ ap (λ b. cond b (Some x) (find id_cmp u rows)) (id_itself u)
  row_found (r ∷ rows) u x (inr i) most =
      elim (decide (is_id u r.0)) [
        | inl p ↦ let one = ap one_if p in let more = row_counts rows u x i in absurd (omega (arith, one, more, most))
        | inr p ↦ ap (λ b. cond b (Some r.1) (find id_cmp u rows)) p ∙ row_found rows u x i (let zero = ap one_if p in omega (arith, zero, most))
      ]

module _ (d : BareDoc) (is : IsDoc d) where
  counts : (u : NodeId) → occurs u (keys (entry_rows d.tree)) + occurs u (keys (group_rows d.tree)) ≤ 1
  counts u = let all = rows_count u d.tree in let most = once (node_ids d.tree) is.distinct u in omega (arith, all, most)

  pub entry_is : (u : NodeId) (x : EntryRecord) → IsIn (u, x) (entry_rows d.tree) → get (shape_of d).entries u ≡ Some x
  entry_is u x i = shape_entry d is u ∙ row_found (entry_rows d.tree) u x i (let all = counts u in omega (arith, all))

  pub group_is : (u : NodeId) (r : GroupRecord) → IsIn (u, r) (group_rows d.tree) → get (shape_of d).groups u ≡ Some r
  group_is u r i = shape_group d is u ∙ row_found (group_rows d.tree) u r i (let all = counts u in omega (arith, all))

  no_entry : (u : NodeId) (r : GroupRecord) → IsIn (u, r) (group_rows d.tree) → get (shape_of d).entries u ≡ None
  no_entry u r i =
      let all = counts u in
      let some = row_counts (group_rows d.tree) u r i in
      let zero : occurs u (keys (entry_rows d.tree)) ≡ 0 = omega (arith, all, some) in
      shape_entry d is u ∙ none_found u (entry_rows d.tree) zero

  pub entry_stay : (u : NodeId) (x : EntryRecord) → IsIn (u, x) (entry_rows d.tree) → stay_of (shape_of d) u ≡ record { placed = x.placed; previous = x.previous }
  entry_stay u x i = ap (λ o. stay_or o (get (shape_of d).groups u)) (entry_is u x i)

  pub group_stay : (u : NodeId) (r : GroupRecord) → IsIn (u, r) (group_rows d.tree) → stay_of (shape_of d) u ≡ record { placed = r.placed; previous = r.previous }
  group_stay u r i = ap (λ o. stay_or o (get (shape_of d).groups u)) (no_entry u r i) ∙ ap (stay_or None) (group_is u r i)

  -- a place is that of the node's stay
  pub place_is : (u : NodeId) (p : Place) → get (db_in d).places u ≡ Some p → p ≡ place_at (stay_of (shape_of d) u) p.parent
  place_is u p e =
      let s = shape_of d in
      let row = find_in id_order.total id_order.same (place_rows s) u p (sym (db_place d is u) ∙ e) in
      let f = from_flat (λ (r : NodeId × Children). map (λ v. (v, place_at (stay_of s v) r.0)) (r.1.entries ++ r.1.groups)) (entries s.children) (u, p) row in
      let h = from_map (λ v. (v, place_at (stay_of s v) f.0.0)) (f.0.1.entries ++ f.0.1.groups) (u, p) f.1.1 in
      let same_p : place_at (stay_of s h.0) f.0.0 ≡ p = ap (λ (x : NodeId × Place). x.1) h.1.1 in
      let same_u : h.0 ≡ u = ap (λ (x : NodeId × Place). x.0) h.1.1 in
      sym same_p ∙ (λ i. place_at (stay_of s (same_u i)) ((ap (λ (q : Place). q.parent) same_p) i))

-- ---- places by what groups hold

-- A child of a group is one of a group afterwards, not at an earlier place.
pub record KidAfter (g u : NodeId) (s : Stay) (e : BareDoc) : Type 0 where
  pub parent : NodeId
  pub kid : IsKid (child_rows e.tree) parent u
  pub later : greater place_cmp (place_at s g) (place_at (stay_of (shape_of e) u) parent) ≡ place_at (stay_of (shape_of e) u) parent

pub places_stay : (d e : BareDoc) → IsDoc d → IsDoc e → ((g u : NodeId) → IsKid (child_rows d.tree) g u → KidAfter g u (stay_of (shape_of d) u) e ⊎ Buried u 0 e)
    → (u : NodeId) (p : Place) → get (db_in d).places u ≡ Some p → PlaceAfter u p e ⊎ Buried u 0 e
places_stay d e isd ise kids u p at =
    elim (kids p.parent u (place_kid d isd u p at)) [
      | inl k ↦
          let q = kid_place e ise k.parent u k.kid in
          let here : q.0 ≡ place_at (stay_of (shape_of e) u) k.parent = place_is e ise u q.0 q.1.0 ∙ ap (place_at (stay_of (shape_of e) u)) q.1.1 in
          inl (record {
            after = q.0;
            is = q.1.0;
            later = (λ i. greater place_cmp (place_is d isd u p at i) (here i)) ∙ k.later ∙ sym here;
          })
      | inr b ↦ inr b
    ]

-- ---- times of versions

-- no version of an entry is newer than the entry's time
pub versions_time : (e : EntryRecord) → newest (Some (versions_of e)) ≤ entry_time e
versions_time e = greatest_below (map (λ (k : Mark). k.modified) (map_keys (versions_of e))) (entry_time e) (λ time h.
    let k = from_map (λ (k : Mark). k.modified) (map_keys (versions_of e)) time h in
    let s = some_of (get (versions_of e) k.0) (from_keys mark_order.total mark_order.same (versions_of e) k.0 k.1.0) in
    let v = version_marks e k.0 s.0 s.1 in
    let at = greatest_above (map (λ (x : BareVersion). x.mark.modified) (e.current ∷ e.history)) v.0.mark.modified (in_map (λ (x : BareVersion). x.mark.modified) (e.current ∷ e.history) v.0 v.1.0) in
    let same = ap (λ (m : Mark). m.modified) v.1.1 in
    let is = k.1.1 in
    omega (arith, at, same, is))
