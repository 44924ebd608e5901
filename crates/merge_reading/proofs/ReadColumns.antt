-- A document's tree read into empty columns has what its database has.
use Rattle.std.proofs.Common.{◌≡◌, Bool, true, false, cond, ◌||◌, ◌⊎◌, inl, inr, List, [], ◌∷◌, ◌++◌, Option, Some, None, map, is_some, refl, sym, ap, subst, ◌∙◌}
use Rattle.std.proofs.lemmas.Option.{same_Some}
use Rattle.std.specs.FinMap.{FinMap, empty, get, contains_key, entries, insert, get-empty, get-insert, same_map}
use Rattle.vault_model.specs.declared.nodes.GroupState.{GroupState}
use Rattle.vault_model.specs.Db.{NodeId, id_cmp, Versions, Place}
use Rattle.vault_model.specs.Join.{is_id, IsIn}
use Rattle.vault_model.specs.Shape.{EntryRecord, GroupRecord, Children, Stay, stay_or, stay_of, place_at, place_rows, versions_of}
use Rattle.vault_model.specs.Tree.{Tree, node, Trees, none, beside, BareDoc, id_of, ids_of, entry_rows, entry_rows_all, group_rows, group_rows_all, child_rows, child_rows_all, node_ids, node_ids_all, IsDoc, db_in}
use Rattle.vault_model.proofs.Ids.{same_id, id_itself}
use Rattle.vault_model.proofs.Orders.{id_order}
use Rattle.merge_tables.proofs.MergeCore.Tables.{find_in, some_find}
use Rattle.vault_model.proofs.Tests.{decide, apart, some_of, none_of, is_false, or_left, or_right, in_front, in_back, in_either, in_map, from_map, from_flat, map_append}
use Rattle.merge_tables.proofs.MergeCore.Versions.{never}
use Rattle.merge_reading.specs.declared.reading.Columns.{Columns}
use Rattle.merge_reading.specs.Columns.{entry_stay, group_stay, tree_stay, with_entry, with_entries, with_place, with_tree, with_trees}
use Rattle.merge_tables.proofs.MergeCore.SoundDoc.{AreDistinct, IsKid, entry_ids, distinct_head, distinct_front, distinct_back, distinct_apart, below_node, entry_node, entries_nodes, group_node, groups_nodes, kinds_apart, distinct, s, db, shape_entry, shape_group, db_place, entry_at, group_at, entry_there, group_there, place_kid, kid_place}

-- ---- rows put one after another

abbrev pub put_all : {X : Type 0} → FinMap id_cmp X → List (NodeId × X) → FinMap id_cmp X
put_all m [] = m
put_all m (e ∷ es) = put_all (insert m e.0 e.1) es

module _ {X : Type 0} where
  pub put_append : (m : FinMap id_cmp X) (es fs : List (NodeId × X)) → put_all m (es ++ fs) ≡ put_all (put_all m es) fs
  put_append m [] fs = refl
  put_append m (e ∷ es) fs = put_append (insert m e.0 e.1) es fs

  put_from : (es : List (NodeId × X)) (m : FinMap id_cmp X) (u : NodeId) (x : X) → get (put_all m es) u ≡ Some x → (get m u ≡ Some x) ⊎ IsIn (u, x) es
  put_from [] m u x e = inl e
  put_from (d ∷ ds) m u x e =
      elim (put_from ds (insert m d.0 d.1) u x e) [
        | inl h ↦ elim (decide (is_id u d.0)) [
          | inl t ↦
              let is : d.1 ≡ x = same_Some d.1 x (sym (get-insert id_order.total m d.0 d.1 u ∙ ap (λ b. cond b (Some d.1) (get m u)) t) ∙ h) in
              inr (inl (λ i. (sym (same_id u d.0 t) i, is i)))
          | inr t ↦ inl (sym (get-insert id_order.total m d.0 d.1 u ∙ ap (λ b. cond b (Some d.1) (get m u)) t) ∙ h)
        ]
        | inr h ↦ inr (inr h)
      ]

  insert_has : (m : FinMap id_cmp X) (k : NodeId) (x : X) (u : NodeId) → contains_key (insert m k x) u ≡ (is_id u k || contains_key m u)
  insert_has m k x u = ap is_some (get-insert id_order.total m k x u) ∙ either (is_id u k)
    where
      either : (b : Bool) → is_some (cond b (Some x) (get m u)) ≡ (b || contains_key m u)
      either true = refl
      either false = refl

  put_keep : (es : List (NodeId × X)) (m : FinMap id_cmp X) (u : NodeId) → contains_key m u ≡ true → contains_key (put_all m es) u ≡ true
  put_keep [] m u e = e
  put_keep (d ∷ ds) m u e = put_keep ds (insert m d.0 d.1) u (insert_has m d.0 d.1 u ∙ or_right (is_id u d.0) (contains_key m u) e)

  put_new : (es : List (NodeId × X)) (m : FinMap id_cmp X) (u : NodeId) (x : X) → IsIn (u, x) es → contains_key (put_all m es) u ≡ true
  put_new [] m u x h = absurd h
  put_new (d ∷ ds) m u x (inl p) =
      put_keep ds (insert m d.0 d.1) u (insert_has m d.0 d.1 u ∙ or_left (is_id u d.0) (contains_key m u) (ap (λ (w : NodeId × X). is_id u w.0) p ∙ id_itself u))
  put_new (d ∷ ds) m u x (inr h) = put_new ds (insert m d.0 d.1) u x h

  -- rows that are just a map's, put to nothing, make that map
  pub put_is : (m : FinMap id_cmp X) (es : List (NodeId × X)) → ((e : NodeId × X) → IsIn e es → get m e.0 ≡ Some e.1)
      → ((q : NodeId) (x : X) → get m q ≡ Some x → (y : X) × IsIn (q, y) es) → put_all empty es ≡ m
  put_is m es right all = same_map id_order.total id_order.same (put_all empty es) m (λ q. at q (get (put_all empty es) q) refl)
    where
      at : (q : NodeId) (o : Option X) → get (put_all empty es) q ≡ o → get (put_all empty es) q ≡ get m q
      at q (Some x) e =
          elim (put_from es empty q x e) [
            | inl h ↦ never x (sym (get-empty id_cmp q) ∙ h)
            | inr h ↦ e ∙ sym (right (q, x) h)
          ]
      at q None e =
          e ∙ sym (none_of (get m q) (is_false (contains_key m q) (λ t.
          let x = some_of (get m q) t in
          let y = all q x.0 x.1 in
          apart (contains_key (put_all empty es) q) (put_new es empty q y.0 y.1) (ap is_some e))))

-- ---- what is read, as rows

abbrev version_row : NodeId × EntryRecord → NodeId × Versions
version_row e = (e.0, versions_of e.1)

abbrev state_row : NodeId × GroupRecord → NodeId × GroupState
state_row g = (g.0, g.1.state)

abbrev entry_spot : NodeId → NodeId × EntryRecord → NodeId × Place
entry_spot p e = (e.0, place_at (entry_stay e.1) p)

abbrev mutual
  spots : Tree → List (NodeId × Place)
  spots (node u r es ts) = map (entry_spot u) es ++ spots_all u ts

  spots_all : NodeId → Trees → List (NodeId × Place)
  spots_all p none = []
  spots_all p (beside t ts) = (id_of t, place_at (tree_stay t) p) ∷ (spots t ++ spots_all p ts)

list_entries : (p : NodeId) (es : List (NodeId × EntryRecord)) (c : Columns) → (with_entries p es c).entries ≡ put_all c.entries (map version_row es)
list_entries p [] c = refl
list_entries p (e ∷ es) c = list_entries p es (with_entry p e c)

list_groups : (p : NodeId) (es : List (NodeId × EntryRecord)) (c : Columns) → (with_entries p es c).groups ≡ c.groups
list_groups p [] c = refl
list_groups p (e ∷ es) c = list_groups p es (with_entry p e c)

list_places : (p : NodeId) (es : List (NodeId × EntryRecord)) (c : Columns) → (with_entries p es c).places ≡ put_all c.places (map (entry_spot p) es)
list_places p [] c = refl
list_places p (e ∷ es) c = list_places p es (with_entry p e c)

mutual
  tree_entries : (t : Tree) (c : Columns) → (with_tree t c).entries ≡ put_all c.entries (map version_row (entry_rows t))
  tree_entries (node u r es ts) c =
      trees_entries u ts (with_entries u es (record c { groups = insert c.groups u r.state }))
      ∙ ap (λ m. put_all m (map version_row (entry_rows_all ts))) (list_entries u es (record c { groups = insert c.groups u r.state }))
      ∙ sym (put_append c.entries (map version_row es) (map version_row (entry_rows_all ts)))
      ∙ ap (put_all c.entries) (sym (map_append version_row es (entry_rows_all ts)))

  trees_entries : (p : NodeId) (ts : Trees) (c : Columns) → (with_trees p ts c).entries ≡ put_all c.entries (map version_row (entry_rows_all ts))
  trees_entries p none c = refl
  trees_entries p (beside t ts) c =
      trees_entries p ts (with_tree t (with_place p t c))
      ∙ ap (λ m. put_all m (map version_row (entry_rows_all ts))) (tree_entries t (with_place p t c))
      ∙ sym (put_append c.entries (map version_row (entry_rows t)) (map version_row (entry_rows_all ts)))
      ∙ ap (put_all c.entries) (sym (map_append version_row (entry_rows t) (entry_rows_all ts)))

mutual
  tree_groups : (t : Tree) (c : Columns) → (with_tree t c).groups ≡ put_all c.groups (map state_row (group_rows t))
  tree_groups (node u r es ts) c =
      trees_groups u ts (with_entries u es (record c { groups = insert c.groups u r.state }))
      ∙ ap (λ m. put_all m (map state_row (group_rows_all ts))) (list_groups u es (record c { groups = insert c.groups u r.state }))

  trees_groups : (p : NodeId) (ts : Trees) (c : Columns) → (with_trees p ts c).groups ≡ put_all c.groups (map state_row (group_rows_all ts))
  trees_groups p none c = refl
  trees_groups p (beside t ts) c =
      trees_groups p ts (with_tree t (with_place p t c))
      ∙ ap (λ m. put_all m (map state_row (group_rows_all ts))) (tree_groups t (with_place p t c))
      ∙ sym (put_append c.groups (map state_row (group_rows t)) (map state_row (group_rows_all ts)))
      ∙ ap (put_all c.groups) (sym (map_append state_row (group_rows t) (group_rows_all ts)))

mutual
  tree_places : (t : Tree) (c : Columns) → (with_tree t c).places ≡ put_all c.places (spots t)
  tree_places (node u r es ts) c =
      trees_places u ts (with_entries u es (record c { groups = insert c.groups u r.state }))
      ∙ ap (λ m. put_all m (spots_all u ts)) (list_places u es (record c { groups = insert c.groups u r.state }))
      ∙ sym (put_append c.places (map (entry_spot u) es) (spots_all u ts))

  trees_places : (p : NodeId) (ts : Trees) (c : Columns) → (with_trees p ts c).places ≡ put_all c.places (spots_all p ts)
  trees_places p none c = refl
  trees_places p (beside t ts) c =
      trees_places p ts (with_tree t (with_place p t c))
      ∙ ap (λ m. put_all m (spots_all p ts)) (tree_places t (with_place p t c))
      ∙ sym (put_append (insert c.places (id_of t) (place_at (tree_stay t) p)) (spots t) (spots_all p ts))

-- ---- each id has one row

list_once : (es : List (NodeId × EntryRecord)) (u : NodeId) (a b : EntryRecord) → AreDistinct (entry_ids es) → IsIn (u, a) es → IsIn (u, b) es → a ≡ b
list_once [] u a b d h k = absurd h
list_once (e ∷ es) u a b d (inl p) (inl q) = ap (λ (x : NodeId × EntryRecord). x.1) (sym p) ∙ ap (λ (x : NodeId × EntryRecord). x.1) q
list_once (e ∷ es) u a b d (inl p) (inr k) =
    absurd (distinct_head e.0 (entry_ids es) d (subst (λ (v : NodeId). IsIn v (entry_ids es)) (ap (λ (x : NodeId × EntryRecord). x.0) (sym p)) (in_map (λ (x : NodeId × EntryRecord). x.0) es (u, b) k)))
list_once (e ∷ es) u a b d (inr h) (inl q) =
    absurd (distinct_head e.0 (entry_ids es) d (subst (λ (v : NodeId). IsIn v (entry_ids es)) (ap (λ (x : NodeId × EntryRecord). x.0) (sym q)) (in_map (λ (x : NodeId × EntryRecord). x.0) es (u, a) h)))
list_once (e ∷ es) u a b d (inr h) (inr k) = list_once es u a b d.1 h k

mutual
  pub one_entry : (t : Tree) (u : NodeId) (a b : EntryRecord) → AreDistinct (node_ids t) → IsIn (u, a) (entry_rows t) → IsIn (u, b) (entry_rows t) → a ≡ b
  one_entry (node v r es ts) u a b d h k =
      elim (in_either es (entry_rows_all ts) (u, a) h) [
        | inl i ↦ elim (in_either es (entry_rows_all ts) (u, b) k) [
          | inl j ↦ list_once es u a b (distinct_front (entry_ids es) (node_ids_all ts) d.1) i j
          | inr j ↦ absurd (distinct_apart (entry_ids es) (node_ids_all ts) d.1 u (in_map (λ (x : NodeId × EntryRecord). x.0) es (u, a) i) (entries_nodes ts u b j))
        ]
        | inr i ↦ elim (in_either es (entry_rows_all ts) (u, b) k) [
          | inl j ↦ absurd (distinct_apart (entry_ids es) (node_ids_all ts) d.1 u (in_map (λ (x : NodeId × EntryRecord). x.0) es (u, b) j) (entries_nodes ts u a i))
          | inr j ↦ one_entries ts u a b (distinct_back (entry_ids es) (node_ids_all ts) d.1) i j
        ]
      ]

  one_entries : (ts : Trees) (u : NodeId) (a b : EntryRecord) → AreDistinct (node_ids_all ts) → IsIn (u, a) (entry_rows_all ts) → IsIn (u, b) (entry_rows_all ts) → a ≡ b
  one_entries none u a b d h k = absurd h
  one_entries (beside t ts) u a b d h k =
      elim (in_either (entry_rows t) (entry_rows_all ts) (u, a) h) [
        | inl i ↦ elim (in_either (entry_rows t) (entry_rows_all ts) (u, b) k) [
          | inl j ↦ one_entry t u a b (distinct_front (node_ids t) (node_ids_all ts) d) i j
          | inr j ↦ absurd (distinct_apart (node_ids t) (node_ids_all ts) d u (below_node t u (entry_node t u a i)) (entries_nodes ts u b j))
        ]
        | inr i ↦ elim (in_either (entry_rows t) (entry_rows_all ts) (u, b) k) [
          | inl j ↦ absurd (distinct_apart (node_ids t) (node_ids_all ts) d u (below_node t u (entry_node t u b j)) (entries_nodes ts u a i))
          | inr j ↦ one_entries ts u a b (distinct_back (node_ids t) (node_ids_all ts) d) i j
        ]
      ]

mutual
  pub one_group : (t : Tree) (u : NodeId) (a b : GroupRecord) → AreDistinct (node_ids t) → IsIn (u, a) (group_rows t) → IsIn (u, b) (group_rows t) → a ≡ b
  one_group (node v r es ts) u a b d (inl p) (inl q) = ap (λ (x : NodeId × GroupRecord). x.1) (sym p) ∙ ap (λ (x : NodeId × GroupRecord). x.1) q
  one_group (node v r es ts) u a b d (inl p) (inr j) =
      absurd (distinct_head v (entry_ids es ++ node_ids_all ts) d (in_back (entry_ids es) (node_ids_all ts) v (subst (λ (x : NodeId). IsIn x (node_ids_all ts)) (ap (λ (x : NodeId × GroupRecord). x.0) (sym p)) (groups_nodes ts u b j))))
  one_group (node v r es ts) u a b d (inr i) (inl q) =
      absurd (distinct_head v (entry_ids es ++ node_ids_all ts) d (in_back (entry_ids es) (node_ids_all ts) v (subst (λ (x : NodeId). IsIn x (node_ids_all ts)) (ap (λ (x : NodeId × GroupRecord). x.0) (sym q)) (groups_nodes ts u a i))))
  one_group (node v r es ts) u a b d (inr i) (inr j) = one_groups ts u a b (distinct_back (entry_ids es) (node_ids_all ts) d.1) i j

  one_groups : (ts : Trees) (u : NodeId) (a b : GroupRecord) → AreDistinct (node_ids_all ts) → IsIn (u, a) (group_rows_all ts) → IsIn (u, b) (group_rows_all ts) → a ≡ b
  one_groups none u a b d h k = absurd h
  one_groups (beside t ts) u a b d h k =
      elim (in_either (group_rows t) (group_rows_all ts) (u, a) h) [
        | inl i ↦ elim (in_either (group_rows t) (group_rows_all ts) (u, b) k) [
          | inl j ↦ one_group t u a b (distinct_front (node_ids t) (node_ids_all ts) d) i j
          | inr j ↦ absurd (distinct_apart (node_ids t) (node_ids_all ts) d u (group_node t u a i) (groups_nodes ts u b j))
        ]
        | inr i ↦ elim (in_either (group_rows t) (group_rows_all ts) (u, b) k) [
          | inl j ↦ absurd (distinct_apart (node_ids t) (node_ids_all ts) d u (group_node t u b j) (groups_nodes ts u a i))
          | inr j ↦ one_groups ts u a b (distinct_back (node_ids t) (node_ids_all ts) d) i j
        ]
      ]

-- ---- places are those of the children

-- a node's row has this stay
abbrev HasStay : List (NodeId × EntryRecord) → List (NodeId × GroupRecord) → NodeId → Stay → Type 0
HasStay es gs u n = ((e : EntryRecord) × (IsIn (u, e) es × (entry_stay e ≡ n))) ⊎ ((g : GroupRecord) × (IsIn (u, g) gs × (group_stay g ≡ n)))

-- the stay of a place
abbrev stay_there : Place → Stay
stay_there p = record { placed = p.placed; previous = p.previous }

root_stay : (t : Tree) → (g : GroupRecord) × (IsIn (id_of t, g) (group_rows t) × (group_stay g ≡ tree_stay t))
root_stay (node u r es ts) = (r, (inl refl, refl))

mutual
  spot_kid : (t : Tree) (u : NodeId) (p : Place) → IsIn (u, p) (spots t) → IsKid (child_rows t) p.parent u × HasStay (entry_rows t) (group_rows t) u (stay_there p)
  spot_kid (node v r es ts) u p h =
      elim (in_either (map (entry_spot v) es) (spots_all v ts) (u, p) h) [
        | inl i ↦
            let f = from_map (entry_spot v) es (u, p) i in
            let same : f.0.0 ≡ u = ap (λ (x : NodeId × Place). x.0) f.1.1 in
            let here : v ≡ p.parent = ap (λ (x : NodeId × Place). x.1.parent) f.1.1 in
            let row = subst (λ (w : NodeId). IsIn (w, f.0.1) es) same f.1.0 in (
              subst (λ (g : NodeId). IsKid (child_rows (node v r es ts)) g u) here
                  (record { entries = entry_ids es; groups = ids_of ts }, (inl refl, in_front (entry_ids es) (ids_of ts) u (in_map (λ (x : NodeId × EntryRecord). x.0) es (u, f.0.1) row))),
              inl (f.0.1, (in_front es (entry_rows_all ts) (u, f.0.1) row, ap (λ (x : NodeId × Place). stay_there x.1) f.1.1)),
            )
        | inr i ↦ elim (spots_kids v ts u p i) [
          | inl k ↦ (
            subst (λ (g : NodeId). IsKid (child_rows (node v r es ts)) g u) k.0
                (record { entries = entry_ids es; groups = ids_of ts }, (inl refl, in_back (entry_ids es) (ids_of ts) u k.1.0)),
            inr (k.1.1.0, (inr k.1.1.1.0, k.1.1.1.1)),
          )
          | inr k ↦ (
            (k.0.0, (inr k.0.1.0, k.0.1.1)),
            elim k.1 [
              | inl e ↦ inl (e.0, (in_back es (entry_rows_all ts) (u, e.0) e.1.0, e.1.1))
              | inr g ↦ inr (g.0, (inr g.1.0, g.1.1))
            ],
          )
        ]
      ]

  spots_kids : (v : NodeId) (ts : Trees) (u : NodeId) (p : Place) → IsIn (u, p) (spots_all v ts)
      → ((v ≡ p.parent) × (IsIn u (ids_of ts) × ((g : GroupRecord) × (IsIn (u, g) (group_rows_all ts) × (group_stay g ≡ stay_there p)))))
      ⊎ (IsKid (child_rows_all ts) p.parent u × HasStay (entry_rows_all ts) (group_rows_all ts) u (stay_there p))
  spots_kids v none u p h = absurd h
  spots_kids v (beside t ts) u p (inl q) =
      let f = root_stay t in
      let same : id_of t ≡ u = ap (λ (x : NodeId × Place). x.0) q in
      inl (
        ap (λ (x : NodeId × Place). x.1.parent) q,
        (
          inl same,
          (
            f.0,
            (
              in_front (group_rows t) (group_rows_all ts) (u, f.0) (subst (λ (w : NodeId). IsIn (w, f.0) (group_rows t)) same f.1.0),
              f.1.1 ∙ ap (λ (x : NodeId × Place). stay_there x.1) q,
            ),
          ),
        ),
      )
  spots_kids v (beside t ts) u p (inr h) =
      elim (in_either (spots t) (spots_all v ts) (u, p) h) [
        | inl i ↦
            let k = spot_kid t u p i in
            inr (
              (k.0.0, (in_front (child_rows t) (child_rows_all ts) (p.parent, k.0.0) k.0.1.0, k.0.1.1)),
              elim k.1 [
                | inl e ↦ inl (e.0, (in_front (entry_rows t) (entry_rows_all ts) (u, e.0) e.1.0, e.1.1))
                | inr g ↦ inr (g.0, (in_front (group_rows t) (group_rows_all ts) (u, g.0) g.1.0, g.1.1))
              ],
            )
        | inr i ↦ elim (spots_kids v ts u p i) [
          | inl k ↦ inl (k.0, (inr k.1.0, (k.1.1.0, (in_back (group_rows t) (group_rows_all ts) (u, k.1.1.0) k.1.1.1.0, k.1.1.1.1))))
          | inr k ↦ inr (
            (k.0.0, (in_back (child_rows t) (child_rows_all ts) (p.parent, k.0.0) k.0.1.0, k.0.1.1)),
            elim k.1 [
              | inl e ↦ inl (e.0, (in_back (entry_rows t) (entry_rows_all ts) (u, e.0) e.1.0, e.1.1))
              | inr g ↦ inr (g.0, (in_back (group_rows t) (group_rows_all ts) (u, g.0) g.1.0, g.1.1))
            ],
          )
        ]
      ]

mutual
  kid_spot : (t : Tree) (g u : NodeId) → IsKid (child_rows t) g u → (p : Place) × IsIn (u, p) (spots t)
  kid_spot (node v r es ts) g u (c, (inl q, h)) =
      let here : IsIn u (entry_ids es ++ ids_of ts) = subst (λ (x : NodeId × Children). IsIn u (x.1.entries ++ x.1.groups)) (sym q) h in
      elim (in_either (entry_ids es) (ids_of ts) u here) [
        | inl i ↦
            let f = from_map (λ (x : NodeId × EntryRecord). x.0) es u i in
            let row = subst (λ (w : NodeId). IsIn (w, f.0.1) es) f.1.1 f.1.0 in
            (place_at (entry_stay f.0.1) v, in_front (map (entry_spot v) es) (spots_all v ts) (u, _) (in_map (entry_spot v) es (u, f.0.1) row))
        | inr i ↦ let f = head_spot v ts u i in (f.0, in_back (map (entry_spot v) es) (spots_all v ts) (u, f.0) f.1)
      ]
  kid_spot (node v r es ts) g u (c, (inr i, h)) =
      let f = kids_spots v ts g u (c, (i, h)) in (f.0, in_back (map (entry_spot v) es) (spots_all v ts) (u, f.0) f.1)

  head_spot : (v : NodeId) (ts : Trees) (u : NodeId) → IsIn u (ids_of ts) → (p : Place) × IsIn (u, p) (spots_all v ts)
  head_spot v none u h = absurd h
  head_spot v (beside t ts) u (inl q) = (place_at (tree_stay t) v, inl (λ i. (q i, place_at (tree_stay t) v)))
  head_spot v (beside t ts) u (inr h) = let f = head_spot v ts u h in (f.0, inr (in_back (spots t) (spots_all v ts) (u, f.0) f.1))

  kids_spots : (v : NodeId) (ts : Trees) (g u : NodeId) → IsKid (child_rows_all ts) g u → (p : Place) × IsIn (u, p) (spots_all v ts)
  kids_spots v none g u k = absurd k.1.0
  kids_spots v (beside t ts) g u k =
      elim (in_either (child_rows t) (child_rows_all ts) (g, k.0) k.1.0) [
        | inl i ↦ let f = kid_spot t g u (k.0, (i, k.1.1)) in (f.0, inr (in_front (spots t) (spots_all v ts) (u, f.0) f.1))
        | inr i ↦ let f = kids_spots v ts g u (k.0, (i, k.1.1)) in (f.0, inr (in_back (spots t) (spots_all v ts) (u, f.0) f.1))
      ]

-- ---- the columns of a document

module _ (d : BareDoc) (is : IsDoc d) where
  abbrev t : Tree
  t = d.tree

  entry_is : (u : NodeId) (e : EntryRecord) → IsIn (u, e) (entry_rows t) → get (db d is).entries u ≡ Some (versions_of e)
  entry_is u e h =
      let v = some_of (get (db d is).entries u) (entry_there d is u e h) in
      let f = entry_at d is u v.0 v.1 in
      v.1 ∙ ap Some (sym f.1.1 ∙ ap versions_of (one_entry t u f.0 e (distinct d is) f.1.0 h))

  group_is : (u : NodeId) (r : GroupRecord) → IsIn (u, r) (group_rows t) → get (db d is).groups u ≡ Some r.state
  group_is u r h =
      let g = some_of (get (db d is).groups u) (group_there d is u r h) in
      let f = group_at d is u g.0 g.1 in
      g.1 ∙ ap Some (sym f.1.1 ∙ ap (λ (x : GroupRecord). x.state) (one_group t u f.0 r (distinct d is) f.1.0 h))

  -- the stay of a place is that of the node's row
  place_stay : (u : NodeId) (p : Place) → get (db d is).places u ≡ Some p → stay_of (s d is) u ≡ stay_there p
  place_stay u p e =
      let row = find_in id_order.total id_order.same (place_rows (s d is)) u p (sym (db_place d is u) ∙ e) in
      let f = from_flat (λ (r : NodeId × Children). map (λ v. (v, place_at (stay_of (s d is) v) r.0)) (r.1.entries ++ r.1.groups)) (entries (s d is).children) (u, p) row in
      let g = from_map (λ v. (v, place_at (stay_of (s d is) v) f.0.0)) (f.0.1.entries ++ f.0.1.groups) (u, p) f.1.1 in
      ap (stay_of (s d is)) (sym (ap (λ (x : NodeId × Place). x.0) g.1.1)) ∙ ap (λ (x : NodeId × Place). stay_there x.1) g.1.1

  stay_entry : (u : NodeId) (e : EntryRecord) → IsIn (u, e) (entry_rows t) → stay_of (s d is) u ≡ entry_stay e
  stay_entry u e h =
      let f = some_find id_order.total id_order.same (entry_rows t) u e h in
      let same = one_entry t u f.0 e (distinct d is) (find_in id_order.total id_order.same (entry_rows t) u f.0 f.1) h in
      ap (λ o. stay_or o (get (s d is).groups u)) (shape_entry d is u ∙ f.1 ∙ ap Some same)

  stay_group : (u : NodeId) (r : GroupRecord) → IsIn (u, r) (group_rows t) → stay_of (s d is) u ≡ group_stay r
  stay_group u r h =
      let f = some_find id_order.total id_order.same (group_rows t) u r h in
      let same = one_group t u f.0 r (distinct d is) (find_in id_order.total id_order.same (group_rows t) u f.0 f.1) h in
      let none : get (s d is).entries u ≡ None =
      none_of (get (s d is).entries u) (is_false (contains_key (s d is).entries u) (λ x.
      let e = some_of (get (s d is).entries u) x in
      kinds_apart t u e.0 r (distinct d is) (find_in id_order.total id_order.same (entry_rows t) u e.0 (sym (shape_entry d is u) ∙ e.1)) h)) in
      (λ i. stay_or (none i) ((shape_group d is u ∙ f.1 ∙ ap Some same) i))

  has_stay : (u : NodeId) (n : Stay) → HasStay (entry_rows t) (group_rows t) u n → stay_of (s d is) u ≡ n
  has_stay u n (inl e) = stay_entry u e.0 e.1.0 ∙ e.1.1
  has_stay u n (inr g) = stay_group u g.0 g.1.0 ∙ g.1.1

  place_is : (u : NodeId) (p : Place) → IsIn (u, p) (spots t) → get (db d is).places u ≡ Some p
  place_is u p h =
      let k = spot_kid t u p h in
      let q = kid_place d is p.parent u k.0 in
      let time : stay_there q.0 ≡ stay_there p = sym (place_stay u q.0 q.1.0) ∙ has_stay u (stay_there p) k.1 in
      q.1.0 ∙ (λ i. Some (place_at (time i) (q.1.1 i)))

  read_entries : put_all empty (map version_row (entry_rows t)) ≡ (db d is).entries
  read_entries =
      put_is (db d is).entries (map version_row (entry_rows t))
      (λ e h. let f = from_map version_row (entry_rows t) e h in subst (λ (x : NodeId × Versions). get (db d is).entries x.0 ≡ Some x.1) f.1.1 (entry_is f.0.0 f.0.1 f.1.0))
      (λ q v e. let f = entry_at d is q v e in (versions_of f.0, in_map version_row (entry_rows t) (q, f.0) f.1.0))

  read_groups : put_all empty (map state_row (group_rows t)) ≡ (db d is).groups
  read_groups =
      put_is (db d is).groups (map state_row (group_rows t))
      (λ e h. let f = from_map state_row (group_rows t) e h in subst (λ (x : NodeId × GroupState). get (db d is).groups x.0 ≡ Some x.1) f.1.1 (group_is f.0.0 f.0.1 f.1.0))
      (λ q g e. let f = group_at d is q g e in (f.0.state, in_map state_row (group_rows t) (q, f.0) f.1.0))

  read_places : put_all empty (spots t) ≡ (db d is).places
  read_places =
      put_is (db d is).places (spots t) (λ e h. place_is e.0 e.1 h)
      (λ q p e. kid_spot t p.parent q (place_kid d is q p e))

  -- read into nothing, a document has the columns of its database
  pub columns_read : with_tree t (record { entries = empty; groups = empty; places = empty })
      ≡ record { entries = (db_in d).entries; groups = (db_in d).groups; places = (db_in d).places }
  columns_read =
      let c : Columns = record { entries = empty; groups = empty; places = empty } in
      λ i. record {
        entries = (tree_entries t c ∙ read_entries) i;
        groups = (tree_groups t c ∙ read_groups) i;
        places = (tree_places t c ∙ read_places) i;
      }
