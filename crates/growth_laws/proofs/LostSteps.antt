-- After a node is deleted, or an entry is edited, all stays that a document had, or has a tombstone.
use Rattle.std.proofs.Common.{◌≡◌, ◌≤◌, ◌⊎◌, ℕ, cond, inl, inr, List, [], ◌∷◌, Some, refl, sym, ap, subst, ◌∙◌, arith}
use Rattle.std.specs.Ordering.{is_lt}
use Rattle.vault_model.specs.declared.nodes.Tombstone.{Tombstone}
use Rattle.vault_model.specs.Db.{NodeId, id_cmp}
use Rattle.vault_model.specs.Join.{IsIn, is_id, stats_join}
use Rattle.vault_model.specs.SeenNodes.{entry_time}
use Rattle.vault_model.specs.Shape.{EntryRecord, GroupRecord, shared_of, stay_of, versions_of}
use Rattle.vault_model.specs.Tree.{BareDoc, IsDoc, Tree, child_rows, entry_rows, group_rows, id_of, node, node_ids, shape_of}
use Rattle.vault_model.specs.Unite.{unite}
use Rattle.vault_model.proofs.Ids.{same_id}
use Rattle.vault_model.proofs.Tests.{decide}
use Rattle.merge_core.proofs.Joins.{meta_joins}
use Rattle.merge_core.proofs.SoundDoc.{IsKid, below_node, is_node, kid_below}
use Rattle.tree_core.specs.Changes.{changed_at, changed_entry, child_with, entries_buried, group_with, groups_buried, own_entry, tomb_at, tree_buried, with_tomb, without_entry, without_group}
use Rattle.growth_laws.proofs.Carries.{Carries, Entry, Group, carries_at, change_entry_carries, change_entry_row, entry_in, take_entry_carries, take_group_carries, was_entry_in}
use Rattle.growth_laws.proofs.Stays.{Buried, EntryAfter, Stays, entry_stay, group_stay, places_stay}
use Rattle.growth_laws.proofs.Steps.{change_root, entry_same, group_same, kid_same, kid_stay, other, own_row, root_same, take_group_root, take_root, tomb_same}

-- ---- tombstones that are put among others

tomb_there : (t : Tombstone) (xs : List Tombstone) → IsIn t (with_tomb t xs)
tomb_there t [] = inl refl
tomb_there t (x ∷ xs) =
    elim (decide (is_lt (id_cmp t.id x.id))) [
      | inl p ↦ subst (λ (ts : List Tombstone). IsIn t ts) (sym (ap (λ b. cond b (t ∷ x ∷ xs) (x ∷ with_tomb t xs)) p)) (inl refl)
      | inr p ↦ subst (λ (ts : List Tombstone). IsIn t ts) (sym (ap (λ b. cond b (t ∷ x ∷ xs) (x ∷ with_tomb t xs)) p)) (inr (tomb_there t xs))
    ]

tomb_stays : (t y : Tombstone) (xs : List Tombstone) → IsIn y xs → IsIn y (with_tomb t xs)
tomb_stays t y [] i = absurd i
tomb_stays t y (x ∷ xs) i =
    elim (decide (is_lt (id_cmp t.id x.id))) [
      | inl p ↦ subst (λ (ts : List Tombstone). IsIn y ts) (sym (ap (λ b. cond b (t ∷ x ∷ xs) (x ∷ with_tomb t xs)) p)) (inr i)
      | inr p ↦ subst (λ (ts : List Tombstone). IsIn y ts) (sym (ap (λ b. cond b (t ∷ x ∷ xs) (x ∷ with_tomb t xs)) p)) (elim i [
        | inl k ↦ inl k
        | inr k ↦ inr (tomb_stays t y xs k)
      ])
    ]

entries_stay : (now : ℕ) (es : List Entry) (y : Tombstone) (xs : List Tombstone) → IsIn y xs → IsIn y (entries_buried now es xs)
entries_stay now [] y xs i = i
entries_stay now (e ∷ es) y xs i = tomb_stays (tomb_at now e.0 (entry_time e.1)) y (entries_buried now es xs) (entries_stay now es y xs i)

groups_stay : (now : ℕ) (gs : List Group) (y : Tombstone) (xs : List Tombstone) → IsIn y xs → IsIn y (groups_buried now gs xs)
groups_stay now [] y xs i = i
groups_stay now (g ∷ gs) y xs i = tomb_stays (tomb_at now g.0 g.1.state.modified) y (groups_buried now gs xs) (groups_stay now gs y xs i)

entry_buried : (now : ℕ) (es : List Entry) (xs : List Tombstone) (e : Entry) → IsIn e es → IsIn (tomb_at now e.0 (entry_time e.1)) (entries_buried now es xs)
entry_buried now [] xs e i = absurd i
entry_buried now (x ∷ es) xs e (inl p) =
    subst (λ (y : Entry). IsIn (tomb_at now y.0 (entry_time y.1)) (entries_buried now (x ∷ es) xs)) p (tomb_there (tomb_at now x.0 (entry_time x.1)) (entries_buried now es xs))
entry_buried now (x ∷ es) xs e (inr i) =
    tomb_stays (tomb_at now x.0 (entry_time x.1)) (tomb_at now e.0 (entry_time e.1)) (entries_buried now es xs) (entry_buried now es xs e i)

group_buried : (now : ℕ) (gs : List Group) (xs : List Tombstone) (g : Group) → IsIn g gs → IsIn (tomb_at now g.0 g.1.state.modified) (groups_buried now gs xs)
group_buried now [] xs g i = absurd i
group_buried now (x ∷ gs) xs g (inl p) =
    subst (λ (y : Group). IsIn (tomb_at now y.0 y.1.state.modified) (groups_buried now (x ∷ gs) xs)) p (tomb_there (tomb_at now x.0 x.1.state.modified) (groups_buried now gs xs))
group_buried now (x ∷ gs) xs g (inr i) =
    tomb_stays (tomb_at now x.0 x.1.state.modified) (tomb_at now g.0 g.1.state.modified) (groups_buried now gs xs) (group_buried now gs xs g i)

-- ---- an entry is deleted

module _ (d : BareDoc) (g : NodeId) (now : ℕ) (x : Entry) (b : Tree) where
  abbrev gone : BareDoc
  gone = record d { tree = changed_at g (without_entry x.0) d.tree; tombs = entries_buried now (x ∷ []) d.tombs }

  tomb : Buried x.0 (entry_time x.1) gone
  tomb = record { tomb = tomb_at now x.0 (entry_time x.1); is = tomb_there (tomb_at now x.0 (entry_time x.1)) d.tombs; id = refl; late = omega arith }

  pub delete_entry_stays : IsDoc d → IsDoc gone → group_with g d.tree ≡ Some b → own_entry x.0 b ≡ Some x → Stays d gone
  delete_entry_stays isd ise there own =
      let c : Carries d.tree gone.tree (λ r. x ≡ r) (λ r. ⊥) (λ h q. x.0 ≡ q) = carries_at g (without_entry x.0) d.tree b there (take_root x.0 b) (take_entry_carries x.0 x b own) in
      let lost : Buried x.0 0 gone = record { tomb = tomb.tomb; is = tomb.is; id = tomb.id; late = omega arith } in
      record {
        entries = λ u r i. elim (c.entries (u, r) i) [
          | inl k ↦ inl (entry_same u r gone k)
          | inr p ↦ inr (subst (λ (z : Entry). Buried z.0 (entry_time z.1) gone) p tomb)
        ];
        groups = λ u r i. elim (c.groups (u, r) i) [ inl k ↦ inl (group_same u r gone k) | inr l ↦ absurd l ];
        places = places_stay d gone isd ise (λ h q k. elim (decide (is_id q x.0)) [
          | inl p ↦ inr (subst (λ (v : NodeId). Buried v 0 gone) (sym (same_id q x.0 p)) lost)
          | inr p ↦ elim (c.kids h q k) [
            | inl z ↦ inl (kid_same d gone isd ise h q
                (λ r i. elim (c.entries (q, r) i) [ inl j ↦ j | inr s ↦ absurd (other q x.0 p (ap (λ (w : Entry). w.0) s)) ])
                (λ r i. elim (c.groups (q, r) i) [ inl j ↦ j | inr l ↦ absurd l ]) k z)
            | inr s ↦ absurd (other q x.0 p s)
          ]
        ]);
        tombs = λ t i. tomb_same gone t (entries_stay now (x ∷ []) t d.tombs i);
        root = root_same g (without_entry x.0) d.tree b there (take_root x.0 b);
        meta = meta_joins.idem (shared_of d.meta);
      }

-- ---- a group is deleted

head_node : (c : Tree) → IsIn (id_of c) (node_ids c)
head_node (node v r es ts) = inl refl

module _ (d : BareDoc) (g : NodeId) (now : ℕ) (c b : Tree) where
  abbrev left : BareDoc
  left = record d { tree = changed_at g (without_group (id_of c)) d.tree; tombs = tree_buried now c d.tombs }

  entry_tomb : (q : NodeId) (x : EntryRecord) → IsIn (q, x) (entry_rows c) → Buried q (entry_time x) left
  entry_tomb q x i = record {
    tomb = tomb_at now q (entry_time x);
    is = entry_buried now (entry_rows c) (groups_buried now (group_rows c) d.tombs) (q, x) i;
    id = refl;
    late = omega arith;
  }

  group_tomb : (q : NodeId) (r : GroupRecord) → IsIn (q, r) (group_rows c) → Buried q r.state.modified left
  group_tomb q r i = record {
    tomb = tomb_at now q r.state.modified;
    is = entries_stay now (entry_rows c) (tomb_at now q r.state.modified) (groups_buried now (group_rows c) d.tombs) (group_buried now (group_rows c) d.tombs (q, r) i);
    id = refl;
    late = omega arith;
  }

  node_tomb : (q : NodeId) → IsIn q (node_ids c) → Buried q 0 left
  node_tomb q i = elim (is_node c q i) [
    | inl x ↦ let t = entry_tomb q x.0 x.1 in record { tomb = t.tomb; is = t.is; id = t.id; late = omega arith }
    | inr r ↦ let t = group_tomb q r.0 r.1 in record { tomb = t.tomb; is = t.is; id = t.id; late = omega arith }
  ]

  pub delete_group_stays : IsDoc d → IsDoc left → group_with g d.tree ≡ Some b → child_with (id_of c) b ≡ Some c → Stays d left
  delete_group_stays isd ise there own =
      let u = id_of c in
      let carried : Carries d.tree left.tree (λ r. IsIn r (entry_rows c)) (λ r. IsIn r (group_rows c)) (λ h q. (u ≡ q) ⊎ IsKid (child_rows c) h q) =
      carries_at g (without_group u) d.tree b there (take_group_root u b) (take_group_carries u c b own) in
      record {
        entries = λ q x i. elim (carried.entries (q, x) i) [ inl k ↦ inl (entry_same q x left k) | inr k ↦ inr (entry_tomb q x k) ];
        groups = λ q r i. elim (carried.groups (q, r) i) [ inl k ↦ inl (group_same q r left k) | inr k ↦ inr (group_tomb q r k) ];
        places = places_stay d left isd ise (λ h q k. elim (carried.kids h q k) [
          | inl z ↦ elim (is_node d.tree q (below_node d.tree q (kid_below d.tree h q k))) [
            | inl x ↦ elim (carried.entries (q, x.0) x.1) [
              | inl j ↦ inl (kid_stay d left isd ise h q (entry_stay d isd q x.0 x.1 ∙ sym (entry_stay left ise q x.0 j)) z)
              | inr j ↦ let t = entry_tomb q x.0 j in inr (record { tomb = t.tomb; is = t.is; id = t.id; late = omega arith })
            ]
            | inr r ↦ elim (carried.groups (q, r.0) r.1) [
              | inl j ↦ inl (kid_stay d left isd ise h q (group_stay d isd q r.0 r.1 ∙ sym (group_stay left ise q r.0 j)) z)
              | inr j ↦ let t = group_tomb q r.0 j in inr (record { tomb = t.tomb; is = t.is; id = t.id; late = omega arith })
            ]
          ]
          | inr z ↦ elim z [
            | inl p ↦ inr (node_tomb q (subst (λ (v : NodeId). IsIn v (node_ids c)) p (head_node c)))
            | inr s ↦ inr (node_tomb q (below_node c q (kid_below c h q s)))
          ]
        ]);
        tombs = λ t i. tomb_same left t (entries_stay now (entry_rows c) t (groups_buried now (group_rows c) d.tombs) (groups_stay now (group_rows c) t d.tombs i));
        root = root_same g (without_group u) d.tree b there (take_group_root u b);
        meta = meta_joins.idem (shared_of d.meta);
      }

-- ---- an entry is edited

module _ (d : BareDoc) (g : NodeId) (f : EntryRecord → EntryRecord) (x : Entry) (b : Tree) where
  abbrev edited : BareDoc
  edited = record d { tree = changed_at g (changed_entry x.0 f) d.tree }

  pub edit_stays : IsDoc d → IsDoc edited → group_with g d.tree ≡ Some b → own_entry x.0 b ≡ Some x → (f x.1).placed ≡ x.1.placed → (f x.1).previous ≡ x.1.previous
      → unite stats_join (versions_of x.1) (versions_of (f x.1)) ≡ versions_of (f x.1) → entry_time x.1 ≤ entry_time (f x.1) → Stays d edited
  edit_stays isd ise there own placed previous more later =
      let c : Carries d.tree edited.tree (λ r. x ≡ r) (λ r. ⊥) (λ h q. ⊥) = carries_at g (changed_entry x.0 f) d.tree b there (change_root x.0 f b) (change_entry_carries x.0 f x b own) in
      let row : IsIn (x.0, f x.1) (entry_rows edited.tree) = entry_in g (changed_entry x.0 f) d.tree b there (change_root x.0 f b) (x.0, f x.1) (change_entry_row x.0 f x b own) in
      let was : IsIn x (entry_rows d.tree) = was_entry_in g d.tree b there x (own_row x.0 x b own) in
      let same : stay_of (shape_of d) x.0 ≡ stay_of (shape_of edited) x.0 =
      entry_stay d isd x.0 x.1 was ∙ (λ i. record { placed = sym placed i; previous = sym previous i }) ∙ sym (entry_stay edited ise x.0 (f x.1) row) in
      record {
        entries = λ u r i. elim (c.entries (u, r) i) [
          | inl k ↦ inl (entry_same u r edited k)
          | inr p ↦ inl (subst (λ (z : Entry). EntryAfter z.0 z.1 edited) p (record { after = f x.1; row = row; more = more; time = later }))
        ];
        groups = λ u r i. elim (c.groups (u, r) i) [ inl k ↦ inl (group_same u r edited k) | inr l ↦ absurd l ];
        places = places_stay d edited isd ise (λ h q k. elim (c.kids h q k) [
          | inl z ↦ elim (decide (is_id q x.0)) [
            | inl p ↦ inl (kid_stay d edited isd ise h q (subst (λ (v : NodeId). stay_of (shape_of d) v ≡ stay_of (shape_of edited) v) (sym (same_id q x.0 p)) same) z)
            | inr p ↦ inl (kid_same d edited isd ise h q
                (λ r i. elim (c.entries (q, r) i) [ inl j ↦ j | inr s ↦ absurd (other q x.0 p (ap (λ (w : Entry). w.0) s)) ])
                (λ r i. elim (c.groups (q, r) i) [ inl j ↦ j | inr l ↦ absurd l ]) k z)
          ]
          | inr l ↦ absurd l
        ]);
        tombs = λ t i. tomb_same edited t i;
        root = root_same g (changed_entry x.0 f) d.tree b there (change_root x.0 f b);
        meta = meta_joins.idem (shared_of d.meta);
      }
