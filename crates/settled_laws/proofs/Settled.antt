-- A document whose entries are in order is settled.
use Rattle.std.proofs.Common.{◌≡◌, Bool, true, false, not, cond, ◌⊎◌, inl, inr, List, [], ◌∷◌, ◌++◌, Option, Some, None, map, refl, sym, ap, subst, ◌∙◌}
use Rattle.std.proofs.lemmas.List.{append-nil}
use Rattle.std.specs.FinMap.{contains_key, get, keys, same_map}
use Rattle.std.specs.List.{filter, list_any}
use Rattle.std.specs.Option.{option_map, unwrap_or}
use Rattle.vault_model.specs.declared.contents.Item.{Item}
use Rattle.vault_model.specs.declared.metas.Icon.{Icon}
use Rattle.vault_model.specs.Db.{Db, NodeId, Place}
use Rattle.vault_model.specs.Join.{Agreed, IsIn, is_id, join}
use Rattle.vault_model.specs.Shape.{Children, EntryRecord, GroupRecord, Shape, db_of, ids_in_group, in_order, kids, laid_children, laid_group, laid_meta, laid_stay, lay, new_view, no_children, record_of, shared_of, stay_at, stay_in, stay_of, versions_in, versions_of}
use Rattle.vault_model.specs.Tree.{BareDoc, IsDoc, IsSettled, LEVELS, Tree, child_rows, child_rows_all, db_in, doc_of, entry_rows, entry_rows_all, group_rows, group_rows_all, id_of, ids_of, node, node_ids, none, beside, shape_of, Trees}
use Rattle.vault_model.proofs.Ids.{id_itself}
use Rattle.vault_model.proofs.Orders.{id_order}
use Rattle.vault_model.proofs.Tests.{apart, from_map, in_back, in_either, in_front, is_false, some_of}
use Rattle.agreed_laws.specs.Merges.{AreDocs}
use Rattle.agreed_laws.proofs.Again.{again}
use Rattle.growth_laws.proofs.Stays.{entry_stay, group_stay, place_is}
use Rattle.merge_core.specs.NodesBelow.{below_ids}
use Rattle.merge_core.proofs.Laid.{db_entries, db_groups, from_standing, into_standing, lay_children, lay_entries, lay_groups, lay_meta, lay_root, lay_tombs, list_in}
use Rattle.merge_core.proofs.MoreLaws.{alone_agreed}
use Rattle.merge_core.proofs.PlanLaws.{join_one}
use Rattle.merge_core.proofs.SoundDoc.{IsKid, all_in, db_root, db_shared, document_sound, entry_at, entry_node, entry_there, group_at, group_there, is_kid, kid_place, distinct, group_node, kinds_apart, one_row, place_kid, row_group, shape_entry, shape_group, shape_kids}
use Rattle.merge_core.proofs.Tables.{find_in}
use Rattle.merge_core.proofs.Unite.{from_keys, in_keys}
use Rattle.merge_core.proofs.Versions.{never}
use Rattle.settled_laws.proofs.OwnTree.{kids_are, meta_is, shape_is_all}
use Rattle.settled_laws.proofs.Sorted.{values_back}
use Rattle.settled_laws.proofs.Versions.{entry_back}
use Rattle.settled_laws.specs.Settled.{MergedWithItself, is_orderly, is_orderly_entry}

-- ---- lists of children with the same members

filter_all : {A : Type 0} (test : A → Bool) (xs : List A) → ((x : A) → IsIn x xs → test x ≡ true) → filter test xs ≡ xs
filter_all test [] each = refl
filter_all test (x ∷ xs) each =
    ap (λ b. cond b (x ∷ filter test xs) (filter test xs)) (each x (inl refl)) ∙ ap (λ ys. x ∷ ys) (filter_all test xs (λ y h. each y (inr h)))

filter_none : {A : Type 0} (test : A → Bool) (xs : List A) → ((x : A) → IsIn x xs → test x ≡ false) → filter test xs ≡ []
filter_none test [] each = refl
filter_none test (x ∷ xs) each =
    ap (λ b. cond b (x ∷ filter test xs) (filter test xs)) (each x (inl refl)) ∙ filter_none test xs (λ y h. each y (inr h))

-- where nobody left and nobody is new, the order is the old one
same_order : (old now : List NodeId) → ((u : NodeId) → IsIn u old → IsIn u now) → ((u : NodeId) → IsIn u now → IsIn u old) → in_order old now ≡ old
same_order old now stay known =
    let first = filter_all (λ v. list_any (is_id v) now) old (λ v h. list_in v now (stay v h)) in
    let rest = filter_none (λ v. not (list_any (is_id v) old)) now (λ v h. ap not (list_in v old (known v h))) in
    (λ i. first i ++ rest i) ∙ append-nil old

-- ---- rows of groups

node_below : (t : Tree) (u : NodeId) → IsIn u (node_ids t) → (id_of t ≡ u) ⊎ IsIn u (below_ids t)
node_below (node v r es ts) u (inl p) = inl p
node_below (node v r es ts) u (inr h) = inr h

-- the entries of a group's list are entries
mutual
  kid_entry : (t : Tree) (g : NodeId) (c : Children) (u : NodeId) → IsIn (g, c) (child_rows t) → IsIn u c.entries → (e : EntryRecord) × IsIn (u, e) (entry_rows t)
  kid_entry (node v r es ts) g c u (inl p) h =
      let here : IsIn u (map (λ (e : NodeId × EntryRecord). e.0) es) = subst (λ (x : NodeId × Children). IsIn u x.1.entries) (sym p) h in
      let f = from_map (λ (e : NodeId × EntryRecord). e.0) es u here in
      (f.0.1, in_front es (entry_rows_all ts) (u, f.0.1) (subst (λ (x : NodeId). IsIn (x, f.0.1) es) f.1.1 f.1.0))
  kid_entry (node v r es ts) g c u (inr i) h = let f = kids_entries ts g c u i h in (f.0, in_back es (entry_rows_all ts) (u, f.0) f.1)

  kids_entries : (ts : Trees) (g : NodeId) (c : Children) (u : NodeId) → IsIn (g, c) (child_rows_all ts) → IsIn u c.entries → (e : EntryRecord) × IsIn (u, e) (entry_rows_all ts)
  kids_entries none g c u i h = absurd i
  kids_entries (beside t ts) g c u i h =
      elim (in_either (child_rows t) (child_rows_all ts) (g, c) i) [
        | inl j ↦ let f = kid_entry t g c u j h in (f.0, in_front (entry_rows t) (entry_rows_all ts) (u, f.0) f.1)
        | inr j ↦ let f = kids_entries ts g c u j h in (f.0, in_back (entry_rows t) (entry_rows_all ts) (u, f.0) f.1)
      ]

own_row : (t : Tree) (u : NodeId) → id_of t ≡ u → (r : GroupRecord) × IsIn (u, r) (group_rows t)
own_row (node v r es ts) u p = (r, inl (λ i. (p i, r)))

head_group : (ts : Trees) (u : NodeId) → IsIn u (ids_of ts) → (r : GroupRecord) × IsIn (u, r) (group_rows_all ts)
head_group none u h = absurd h
head_group (beside t ts) u (inl p) = let f = own_row t u p in (f.0, in_front (group_rows t) (group_rows_all ts) (u, f.0) f.1)
head_group (beside t ts) u (inr h) = let f = head_group ts u h in (f.0, in_back (group_rows t) (group_rows_all ts) (u, f.0) f.1)

-- and its groups are groups
mutual
  kid_group : (t : Tree) (g : NodeId) (c : Children) (u : NodeId) → IsIn (g, c) (child_rows t) → IsIn u c.groups → (r : GroupRecord) × IsIn (u, r) (group_rows t)
  kid_group (node v r es ts) g c u (inl p) h =
      let f = head_group ts u (subst (λ (x : NodeId × Children). IsIn u x.1.groups) (sym p) h) in
      (f.0, inr f.1)
  kid_group (node v r es ts) g c u (inr i) h = let f = kids_groups ts g c u i h in (f.0, inr f.1)

  kids_groups : (ts : Trees) (g : NodeId) (c : Children) (u : NodeId) → IsIn (g, c) (child_rows_all ts) → IsIn u c.groups → (r : GroupRecord) × IsIn (u, r) (group_rows_all ts)
  kids_groups none g c u i h = absurd i
  kids_groups (beside t ts) g c u i h =
      elim (in_either (child_rows t) (child_rows_all ts) (g, c) i) [
        | inl j ↦ let f = kid_group t g c u j h in (f.0, in_front (group_rows t) (group_rows_all ts) (u, f.0) f.1)
        | inr j ↦ let f = kids_groups ts g c u j h in (f.0, in_back (group_rows t) (group_rows_all ts) (u, f.0) f.1)
      ]

-- each group has a row of children
mutual
  group_kids : (t : Tree) (g : NodeId) (r : GroupRecord) → IsIn (g, r) (group_rows t) → (c : Children) × IsIn (g, c) (child_rows t)
  group_kids (node v r es ts) g x (inl p) =
      (record { entries = map (λ (e : NodeId × EntryRecord). e.0) es; groups = ids_of ts }, inl (λ i. ((p i).0, record { entries = map (λ (e : NodeId × EntryRecord). e.0) es; groups = ids_of ts })))
  group_kids (node v r es ts) g x (inr h) = let f = groups_kids ts g x h in (f.0, inr f.1)

  groups_kids : (ts : Trees) (g : NodeId) (r : GroupRecord) → IsIn (g, r) (group_rows_all ts) → (c : Children) × IsIn (g, c) (child_rows_all ts)
  groups_kids none g x h = absurd h
  groups_kids (beside t ts) g x h =
      elim (in_either (group_rows t) (group_rows_all ts) (g, x) h) [
        | inl j ↦ let f = group_kids t g x j in (f.0, in_front (child_rows t) (child_rows_all ts) (g, f.0) f.1)
        | inr j ↦ let f = groups_kids ts g x j in (f.0, in_back (child_rows t) (child_rows_all ts) (g, f.0) f.1)
      ]

module _ (d : BareDoc) (is : IsDoc d) (up : is_orderly d ≡ true) where
  abbrev s : Shape
  s = shape_of d

  abbrev m : Db
  m = db_in d

  -- ---- each node stays where it is

  kid_stay : (u g : NodeId) → IsKid (child_rows d.tree) g u → stay_in m u ≡ stay_of s u
  kid_stay u g k =
      let p = kid_place d is g u k in
      ap stay_at (p.1.0 ∙ ap Some (place_is d is u p.0 p.1.0))

  below_stay : (u : NodeId) → IsIn u (below_ids d.tree) → stay_in m u ≡ stay_of s u
  below_stay u h = let k = is_kid d.tree u h in kid_stay u k.0 k.1

  entry_at_home : (u : NodeId) (o : Option EntryRecord) → get s.entries u ≡ o → record_of (stay_in m u) (versions_in (get m.entries u)) ≡ o
  entry_at_home u None q = ap (λ o. record_of (stay_in m u) (versions_in o)) (db_entries s u ∙ ap (option_map versions_of) q)
  entry_at_home u (Some e) q =
      let row = find_in id_order.total id_order.same (entry_rows d.tree) u e (sym (shape_entry d is u) ∙ q) in
      let stay : stay_in m u ≡ record { placed = e.placed; previous = e.previous } = below_stay u (entry_node d.tree u e row) ∙ entry_stay d is u e row in
      let orderly = all_in (λ (r : NodeId × EntryRecord). is_orderly_entry r.1) (entry_rows d.tree) (u, e) up row in
      (λ i. record_of (stay i) (versions_in ((db_entries s u ∙ ap (option_map versions_of) q) i))) ∙ entry_back e orderly

  laid_stays : (u : NodeId) → IsIn u (node_ids d.tree) → (b : Bool) → is_id u m.root ≡ b → cond b (stay_of s u) (stay_in m u) ≡ stay_of s u
  laid_stays u h true e = refl
  laid_stays u h false e =
      elim (node_below d.tree u h) [
        | inl p ↦ apart (is_id u m.root) (ap (is_id u) (db_root d is ∙ p) ∙ id_itself u) e
        | inr k ↦ below_stay u k
      ]

  group_at_home : (u : NodeId) (o : Option GroupRecord) → get s.groups u ≡ o → option_map (laid_group m s u) (get m.groups u) ≡ o
  group_at_home u None q = ap (option_map (laid_group m s u)) (db_groups s u ∙ ap (option_map (λ (g : GroupRecord). g.state)) q)
  group_at_home u (Some r) q =
      let row = find_in id_order.total id_order.same (group_rows d.tree) u r (sym (shape_group d is u) ∙ q) in
      let stay : laid_stay m s u ≡ record { placed = r.placed; previous = r.previous } =
      laid_stays u (group_node d.tree u r row) (is_id u m.root) refl ∙ group_stay d is u r row in
      ap (option_map (laid_group m s u)) (db_groups s u ∙ ap (option_map (λ (g : GroupRecord). g.state)) q)
      ∙ (λ i. Some (record {
        placed = (stay i).placed;
        previous = (stay i).previous;
        state = r.state;
        view = unwrap_or (option_map (λ (g : GroupRecord). g.view) (q i)) new_view;
      }))

  -- ---- each group keeps its children in their order

  -- a child's place is in its group
  kid_stands : (u g : NodeId) → IsKid (child_rows d.tree) g u → (p : Place) × ((get m.places u ≡ Some p) × (p.parent ≡ g))
  kid_stands u g k = kid_place d is g u k

  module _ (g : NodeId) (c : Children) (row : IsIn (g, c) (child_rows d.tree)) where
    entries_stay : (u : NodeId) → IsIn u c.entries → IsIn u (ids_in_group m g (keys m.entries))
    entries_stay u h =
        let e = kid_entry d.tree g c u row h in
        let p = kid_stands u g (c, (row, in_front c.entries c.groups u h)) in
        subst (λ (x : NodeId). IsIn u (ids_in_group m x (keys m.entries))) p.1.1
        (into_standing m (keys m.entries) u p.0 (in_keys id_order.total id_order.same m.entries u (entry_there d is u e.0 e.1)) p.1.0)

    groups_stay : (u : NodeId) → IsIn u c.groups → IsIn u (ids_in_group m g (keys m.groups))
    groups_stay u h =
        let r = kid_group d.tree g c u row h in
        let p = kid_stands u g (c, (row, in_back c.entries c.groups u h)) in
        subst (λ (x : NodeId). IsIn u (ids_in_group m x (keys m.groups))) p.1.1
        (into_standing m (keys m.groups) u p.0 (in_keys id_order.total id_order.same m.groups u (group_there d is u r.0 r.1)) p.1.0)

    -- who stands in the group is in one of its lists
    in_lists : (u : NodeId) (p : Place) → get m.places u ≡ Some p → g ≡ p.parent → IsIn u c.entries ⊎ IsIn u c.groups
    in_lists u p e here =
        let k = place_kid d is u p e in
        let same : k.0 ≡ c = one_row d.tree g k.0 c (distinct d is) (subst (λ (x : NodeId). IsIn (x, k.0) (child_rows d.tree)) (sym here) k.1.0) row in
        in_either c.entries c.groups u (subst (λ (x : Children). IsIn u (x.entries ++ x.groups)) same k.1.1)

    no_both : {A : Type 0} (u : NodeId) → contains_key m.entries u ≡ true → contains_key m.groups u ≡ true → A
    no_both u e h =
        let v = some_of (get m.entries u) e in
        let x = entry_at d is u v.0 v.1 in
        let w = some_of (get m.groups u) h in
        let y = group_at d is u w.0 w.1 in
        absurd (kinds_apart d.tree u x.0 y.0 (distinct d is) x.1.0 y.1.0)

    entries_known : (u : NodeId) → IsIn u (ids_in_group m g (keys m.entries)) → IsIn u c.entries
    entries_known u h =
        let f = from_standing m g (keys m.entries) u h in
        let is_one = from_keys id_order.total id_order.same m.entries u f.0 in
        elim (in_lists u f.1.0 f.1.1.0 f.1.1.1) [
          | inl x ↦ x
          | inr x ↦ let r = kid_group d.tree g c u row x in no_both u is_one (group_there d is u r.0 r.1)
        ]

    groups_known : (u : NodeId) → IsIn u (ids_in_group m g (keys m.groups)) → IsIn u c.groups
    groups_known u h =
        let f = from_standing m g (keys m.groups) u h in
        let is_one = from_keys id_order.total id_order.same m.groups u f.0 in
        elim (in_lists u f.1.0 f.1.1.0 f.1.1.1) [
          | inl x ↦ let e = kid_entry d.tree g c u row x in no_both u (entry_there d is u e.0 e.1) is_one
          | inr x ↦ x
        ]

    children_stay : get s.children g ≡ Some c → laid_children m s g ≡ c
    children_stay q =
        let k : kids s g ≡ c = ap (λ o. unwrap_or o no_children) q in
        ap (λ (x : Children). children_from x) k
        ∙ (λ i. record {
          entries = same_order c.entries (ids_in_group m g (keys m.entries)) entries_stay entries_known i;
          groups = same_order c.groups (ids_in_group m g (keys m.groups)) groups_stay groups_known i;
        })
      where
        children_from : Children → Children
        children_from x = record {
          entries = in_order x.entries (ids_in_group m g (keys m.entries));
          groups = in_order x.groups (ids_in_group m g (keys m.groups));
        }

  children_at_home : (g : NodeId) (o : Option Children) → get s.children g ≡ o → cond (contains_key m.groups g) (Some (laid_children m s g)) None ≡ o
  children_at_home g None q =
      ap (λ b. cond b (Some (laid_children m s g)) None) (is_false (contains_key m.groups g) (λ h.
      let w = some_of (get m.groups g) h in
      let r = group_at d is g w.0 w.1 in
      let c = group_kids d.tree g r.0 r.1.0 in
      never c.0 (sym q ∙ kids_are d is g c.0 c.1)))
  children_at_home g (Some c) q =
      let row = find_in id_order.total id_order.same (child_rows d.tree) g c (sym (shape_kids d is g) ∙ q) in
      let r = row_group d.tree g c row in
      ap (λ b. cond b (Some (laid_children m s g)) None) (group_there d is g r.0 r.1) ∙ ap Some (children_stay g c row q)

  -- ---- the whole

  meta_at_home : laid_meta (shared_of d.meta) d.meta ≡ d.meta
  meta_at_home = λ i. record d.meta {
    icons = values_back (λ (x : Icon). x.id) d.meta.icons is.icons_rise i;
    items = values_back (λ (x : Item). x.key) d.meta.items is.items_rise i;
  }

  root_at_home : m.root ≡ s.root
  unfolding db_of
  root_at_home = refl

  tombs_at_home : m.tombs ≡ s.tombs
  unfolding db_of
  tombs_at_home = refl

  pub laid_at_home : lay m s ≡ s
  laid_at_home = λ i. record {
    root = (lay_root m s ∙ root_at_home) i;
    entries = same_map id_order.total id_order.same (lay m s).entries s.entries (λ u. lay_entries m s u ∙ entry_at_home u (get s.entries u) refl) i;
    groups = same_map id_order.total id_order.same (lay m s).groups s.groups (λ u. lay_groups m s u ∙ group_at_home u (get s.groups u) refl) i;
    children = same_map id_order.total id_order.same (lay m s).children s.children (λ g. lay_children m s g ∙ children_at_home g (get s.children g) refl) i;
    tombs = (lay_tombs m s ∙ tombs_at_home) i;
    meta = (lay_meta m s ∙ (λ j. laid_meta (db_shared d is j) (meta_is d is j)) ∙ meta_at_home ∙ sym (meta_is d is)) i;
  }

-- so such a document is settled
pub orderly_is_settled : (d : BareDoc) → IsDoc d → is_orderly d ≡ true → IsSettled LEVELS d
orderly_is_settled d is up = ap (doc_of LEVELS) (laid_at_home d is up) ∙ shape_is_all d is

-- and merged with itself it stays
pub merged_with_itself : MergedWithItself
merged_with_itself d is up =
    let one : Agreed (db_in d ∷ []) = alone_agreed (db_in d) (document_sound d is) in
    let same : db_in d ≡ join (db_in d ∷ []) = sym (join_one (db_in d ∷ []) one (db_in d) (inl refl)) in
    let docs : AreDocs (d ∷ d ∷ []) = λ e h. elim h [
      | inl p ↦ subst IsDoc p is
      | inr k ↦ elim k [ inl p ↦ subst IsDoc p is | inr x ↦ absurd x ]
    ] in
    again d (d ∷ []) (db_in d ∷ []) (db_in d ∷ []) ((db_in d ∷ []) ∷ []) docs one (tt, λ n h. h) ((tt, λ n h. h), tt)
    (λ i. same i ∷ same i ∷ []) (orderly_is_settled d is up)
