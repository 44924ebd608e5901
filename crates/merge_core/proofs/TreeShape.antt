-- The tree that is made of a laid document has its shape.
use Rattle.std.proofs.Common.{◌≡◌, ◌≢◌, ◌+◌, ◌-◌, ℕ, zero, suc, Bool, true, false, cond, ◌⊎◌, inl, inr, List, [], ◌∷◌, Option, Some, None, map, is_some, refl, sym, ap, subst, ◌∙◌, arith}
use Rattle.std.specs.FinMap.{FinMap, get, contains_key, entries, keys, from_entries}
use Rattle.std.specs.Option.{option_map, unwrap_or}
use Rattle.vault_model.specs.declared.contents.Stats.{Stats}
use Rattle.vault_model.specs.declared.nodes.GroupState.{GroupState}
use Rattle.vault_model.specs.declared.nodes.Tombstone.{Tombstone}
use Rattle.vault_model.specs.Db.{NodeId, id_cmp, Mark, Versions, Place, Db, holds, parent_or, parent_in, steps, Sound}
use Rattle.vault_model.specs.Join.{is_id, IsIn}
use Rattle.vault_model.specs.Shape.{EntryRecord, GroupRecord, Children, Shape, kids, laid_children, laid_group, stay_in, record_of, versions_in, ids_in_group, no_children, lay, db_of}
use Rattle.vault_model.specs.Tree.{Tree, BareDoc, id_of, ids_of, entry_rows, entry_rows_all, group_rows, group_rows_all, child_rows, child_rows_all, shape_of, with_record, with_records, all_trees, tree_of, no_group, doc_of, lay_doc, IsSettled, db_in, IsDeep, FitsLevels}
use Rattle.vault_model.proofs.Ids.{same_id, id_itself}
use Rattle.merge_core.proofs.Laid.{lay_entries, lay_groups, lay_children, lay_root, into_order, from_order, into_standing, from_standing, laid_db, laid_again}
use Rattle.vault_model.proofs.Orders.{id_order}
use Rattle.merge_core.proofs.Tables.{made_from, made_of_entries}
use Rattle.vault_model.proofs.Tests.{or_left, or_right, apart, decide, some_of, in_front, in_back, in_either, in_map, from_map, map_map}
use Rattle.merge_core.proofs.Unite.{in_keys, from_keys}
use Rattle.merge_core.proofs.Versions.{never}

-- ---- the records of some ids

module _ {A : Type 0} (m : FinMap id_cmp A) where
  with_cases : (u : NodeId) (o : Option A) (rows : List (NodeId × A)) (e : NodeId × A) → IsIn e (with_record u o rows)
      → ((e.0 ≡ u) × (o ≡ Some e.1)) ⊎ IsIn e rows
  with_cases u None rows e h = inr h
  with_cases u (Some x) rows e (inl p) = inl (ap (λ (w : NodeId × A). w.0) (sym p), ap (λ (w : NodeId × A). Some w.1) p)
  with_cases u (Some x) rows e (inr h) = inr h

  pub records_right : (us : List NodeId) (e : NodeId × A) → IsIn e (with_records m us) → (get m e.0 ≡ Some e.1) × IsIn e.0 us
  records_right [] e h = absurd h
  records_right (u ∷ us) e h =
      elim (with_cases u (get m u) (with_records m us) e h) [
        | inl p ↦ (ap (get m) p.0 ∙ p.1, inl (sym p.0))
        | inr k ↦ let r = records_right us e k in (r.0, inr r.1)
      ]

  with_some : (u : NodeId) (x : A) (o : Option A) (rows : List (NodeId × A)) → o ≡ Some x → IsIn (u, x) (with_record u o rows)
  with_some u x o rows e = subst (λ (w : Option A). IsIn (u, x) (with_record u w rows)) (sym e) (inl refl)

  with_more : (u : NodeId) (o : Option A) (rows : List (NodeId × A)) (e : NodeId × A) → IsIn e rows → IsIn e (with_record u o rows)
  with_more u None rows e h = h
  with_more u (Some x) rows e h = inr h

  records_there : (us : List NodeId) (u : NodeId) (x : A) → IsIn u us → get m u ≡ Some x → IsIn (u, x) (with_records m us)
  records_there [] u x h e = absurd h
  records_there (v ∷ vs) u x (inl p) e = subst (λ (w : NodeId). IsIn (u, x) (with_record w (get m w) (with_records m vs))) (sym p) (with_some u x (get m u) (with_records m vs) e)
  records_there (v ∷ vs) u x (inr h) e = with_more v (get m v) (with_records m vs) (u, x) (records_there vs u x h e)

  with_id_first : (u : NodeId) (o : Option A) (rows : List (NodeId × A)) → is_some o ≡ true → map (λ (e : NodeId × A). e.0) (with_record u o rows) ≡ u ∷ map (λ (e : NodeId × A). e.0) rows
  with_id_first u None rows e = apart false e refl
  with_id_first u (Some x) rows e = refl

  -- where all of the ids have records, the records are of just those ids
  records_ids : (us : List NodeId) → ((u : NodeId) → IsIn u us → contains_key m u ≡ true) → map (λ (e : NodeId × A). e.0) (with_records m us) ≡ us
  records_ids [] each = refl
  records_ids (u ∷ us) each =
      with_id_first u (get m u) (with_records m us) (each u (inl refl)) ∙ ap (λ vs. u ∷ vs) (records_ids us (λ v h. each v (inr h)))

-- ---- trees of a list

tree_id : (s : Shape) (k : ℕ) (g : NodeId) (r : GroupRecord) → id_of (tree_of s k g r) ≡ g
tree_id s zero g r = refl
tree_id s (suc k) g r = refl

abbrev below : Shape → ℕ → NodeId × GroupRecord → Tree
below s k c = tree_of s k c.0 c.1

trees_ids : (s : Shape) (k : ℕ) (cs : List (NodeId × GroupRecord)) → ids_of (all_trees (map (below s k) cs)) ≡ map (λ (c : NodeId × GroupRecord). c.0) cs
trees_ids s k [] = refl
trees_ids s k (c ∷ cs) = λ i. tree_id s k c.0 c.1 i ∷ trees_ids s k cs i

pub entries_among : (ts : List Tree) (e : NodeId × EntryRecord) → IsIn e (entry_rows_all (all_trees ts)) → (t : Tree) × (IsIn t ts × IsIn e (entry_rows t))
entries_among [] e h = absurd h
entries_among (t ∷ ts) e h =
    elim (in_either (entry_rows t) (entry_rows_all (all_trees ts)) e h) [
      | inl k ↦ (t, (inl refl, k))
      | inr k ↦ let f = entries_among ts e k in (f.0, (inr f.1.0, f.1.1))
    ]

pub groups_among : (ts : List Tree) (e : NodeId × GroupRecord) → IsIn e (group_rows_all (all_trees ts)) → (t : Tree) × (IsIn t ts × IsIn e (group_rows t))
groups_among [] e h = absurd h
groups_among (t ∷ ts) e h =
    elim (in_either (group_rows t) (group_rows_all (all_trees ts)) e h) [
      | inl k ↦ (t, (inl refl, k))
      | inr k ↦ let f = groups_among ts e k in (f.0, (inr f.1.0, f.1.1))
    ]

children_among : (ts : List Tree) (e : NodeId × Children) → IsIn e (child_rows_all (all_trees ts)) → (t : Tree) × (IsIn t ts × IsIn e (child_rows t))
children_among [] e h = absurd h
children_among (t ∷ ts) e h =
    elim (in_either (child_rows t) (child_rows_all (all_trees ts)) e h) [
      | inl k ↦ (t, (inl refl, k))
      | inr k ↦ let f = children_among ts e k in (f.0, (inr f.1.0, f.1.1))
    ]

among_entries : (ts : List Tree) (t : Tree) (e : NodeId × EntryRecord) → IsIn t ts → IsIn e (entry_rows t) → IsIn e (entry_rows_all (all_trees ts))
among_entries [] t e h k = absurd h
among_entries (x ∷ xs) t e (inl p) k = in_front (entry_rows x) (entry_rows_all (all_trees xs)) e (subst (λ (y : Tree). IsIn e (entry_rows y)) (sym p) k)
among_entries (x ∷ xs) t e (inr h) k = in_back (entry_rows x) (entry_rows_all (all_trees xs)) e (among_entries xs t e h k)

among_groups : (ts : List Tree) (t : Tree) (e : NodeId × GroupRecord) → IsIn t ts → IsIn e (group_rows t) → IsIn e (group_rows_all (all_trees ts))
among_groups [] t e h k = absurd h
among_groups (x ∷ xs) t e (inl p) k = in_front (group_rows x) (group_rows_all (all_trees xs)) e (subst (λ (y : Tree). IsIn e (group_rows y)) (sym p) k)
among_groups (x ∷ xs) t e (inr h) k = in_back (group_rows x) (group_rows_all (all_trees xs)) e (among_groups xs t e h k)

among_children : (ts : List Tree) (t : Tree) (e : NodeId × Children) → IsIn t ts → IsIn e (child_rows t) → IsIn e (child_rows_all (all_trees ts))
among_children [] t e h k = absurd h
among_children (x ∷ xs) t e (inl p) k = in_front (child_rows x) (child_rows_all (all_trees xs)) e (subst (λ (y : Tree). IsIn e (child_rows y)) (sym p) k)
among_children (x ∷ xs) t e (inr h) k = in_back (child_rows x) (child_rows_all (all_trees xs)) e (among_children xs t e h k)

-- ---- each row of a made tree is the shape's

pub entries_right : (s : Shape) (k : ℕ) (g : NodeId) (r : GroupRecord) (e : NodeId × EntryRecord) → IsIn e (entry_rows (tree_of s k g r)) → get s.entries e.0 ≡ Some e.1
entries_right s zero g r e h =
    elim (in_either (with_records s.entries (kids s g).entries) [] e h) [
      | inl x ↦ (records_right s.entries (kids s g).entries e x).0
      | inr x ↦ absurd x
    ]
entries_right s (suc k) g r e h =
    elim (in_either (with_records s.entries (kids s g).entries) (entry_rows_all (all_trees (map (below s k) (with_records s.groups (kids s g).groups)))) e h) [
      | inl x ↦ (records_right s.entries (kids s g).entries e x).0
      | inr x ↦
          let f = entries_among (map (below s k) (with_records s.groups (kids s g).groups)) e x in
          let c = from_map (below s k) (with_records s.groups (kids s g).groups) f.0 f.1.0 in
          entries_right s k c.0.0 c.0.1 e (subst (λ (t : Tree). IsIn e (entry_rows t)) (sym c.1.1) f.1.1)
    ]

pub groups_right : (s : Shape) (k : ℕ) (g : NodeId) (r : GroupRecord) (e : NodeId × GroupRecord) → get s.groups g ≡ Some r → IsIn e (group_rows (tree_of s k g r)) → get s.groups e.0 ≡ Some e.1
groups_right s zero g r e q (inl p) = subst (λ (w : NodeId × GroupRecord). get s.groups w.0 ≡ Some w.1) p q
groups_right s zero g r e q (inr h) = absurd h
groups_right s (suc k) g r e q (inl p) = subst (λ (w : NodeId × GroupRecord). get s.groups w.0 ≡ Some w.1) p q
groups_right s (suc k) g r e q (inr h) =
    let f = groups_among (map (below s k) (with_records s.groups (kids s g).groups)) e h in
    let c = from_map (below s k) (with_records s.groups (kids s g).groups) f.0 f.1.0 in
    groups_right s k c.0.0 c.0.1 e (records_right s.groups (kids s g).groups c.0 c.1.0).0 (subst (λ (t : Tree). IsIn e (group_rows t)) (sym c.1.1) f.1.1)

-- ---- all rows of one tree are another's

pub record Inside (a b : Tree) : Type 0 where
  pub entries : (e : NodeId × EntryRecord) → IsIn e (entry_rows a) → IsIn e (entry_rows b)
  pub groups : (e : NodeId × GroupRecord) → IsIn e (group_rows a) → IsIn e (group_rows b)
  pub children : (e : NodeId × Children) → IsIn e (child_rows a) → IsIn e (child_rows b)

-- a child's tree is inside its parent's
child_inside : (s : Shape) (k : ℕ) (g : NodeId) (r : GroupRecord) (c : NodeId × GroupRecord) → IsIn c (with_records s.groups (kids s g).groups) → Inside (below s k c) (tree_of s (suc k) g r)
child_inside s k g r c h =
    let there = in_map (below s k) (with_records s.groups (kids s g).groups) c h in
    record {
      entries = λ e i. in_back (with_records s.entries (kids s g).entries) _ e (among_entries (map (below s k) (with_records s.groups (kids s g).groups)) (below s k c) e there i);
      groups = λ e i. inr (among_groups (map (below s k) (with_records s.groups (kids s g).groups)) (below s k c) e there i);
      children = λ e i. inr (among_children (map (below s k) (with_records s.groups (kids s g).groups)) (below s k c) e there i);
    }

inside_through : (a b c : Tree) → Inside a b → Inside b c → Inside a c
inside_through a b c x y = record {
  entries = λ e i. y.entries e (x.entries e i);
  groups = λ e i. y.groups e (x.groups e i);
  children = λ e i. y.children e (x.children e i);
}

own_entry : (s : Shape) (k : ℕ) (g : NodeId) (r : GroupRecord) (e : NodeId × EntryRecord) → IsIn e (with_records s.entries (kids s g).entries) → IsIn e (entry_rows (tree_of s k g r))
own_entry s zero g r e h = in_front (with_records s.entries (kids s g).entries) [] e h
own_entry s (suc k) g r e h = in_front (with_records s.entries (kids s g).entries) _ e h

own_group : (s : Shape) (k : ℕ) (g : NodeId) (r : GroupRecord) → IsIn (g, r) (group_rows (tree_of s k g r))
own_group s zero g r = inl refl
own_group s (suc k) g r = inl refl

own_children : (s : Shape) (k : ℕ) (g : NodeId) (r : GroupRecord) → (c : Children) × IsIn (g, c) (child_rows (tree_of s k g r))
own_children s zero g r = (_, inl refl)
own_children s (suc k) g r = (_, inl refl)

-- ---- a laid document

-- who leads to the root is some steps below it
deep_of : (m : Db) → Sound m → (k : ℕ) (u : NodeId) → holds m u ≡ true → steps (parent_in m) k u ≡ m.root → (d : ℕ) × IsDeep m d u
deep_of m s zero u h e = (zero, e)
deep_of m s (suc k) u h e = at_place (get m.places u) refl (λ p q. deep_of m s k p.parent (or_right (contains_key m.entries p.parent) (contains_key m.groups p.parent) (s.parents u p q)) (ap (λ o. steps (parent_in m) k (parent_or u o)) (sym q) ∙ e))
  where
    at_place : (o : Option Place) → get m.places u ≡ o → ((p : Place) → get m.places u ≡ Some p → (d : ℕ) × IsDeep m d p.parent) → (d : ℕ) × IsDeep m d u
    at_place (Some p) q more = let f = more p q in (suc f.0, (p, q, f.1))
    at_place None q more =
        elim (decide (is_id u m.root)) [
          | inl r ↦ (zero, same_id u m.root r)
          | inr r ↦
              let off : u ≢ m.root = λ x. apart (is_id u m.root) (ap (is_id u) (sym x) ∙ id_itself u) r in
              apart (contains_key m.places u) (s.placed u off ∙ h) (ap is_some q)
        ]

module _ (n : ℕ) (m : Db) (t : Shape) (s : Sound m) (fits : FitsLevels n m) where
  abbrev laid : Shape
  laid = lay m t

  abbrev rec : NodeId → GroupRecord
  rec g = unwrap_or (get laid.groups g) no_group

  laid_group_is : (g : NodeId) (o : Option GroupState) → get m.groups g ≡ o → contains_key m.groups g ≡ true → get laid.groups g ≡ Some (rec g)
  laid_group_is g None q e = apart (contains_key m.groups g) e (ap is_some q)
  laid_group_is g (Some x) q e =
      let here : get laid.groups g ≡ Some (laid_group m t g x) = lay_groups m t g ∙ ap (option_map (laid_group m t g)) q in
      here ∙ ap Some (sym (ap (λ o. unwrap_or o no_group) here))

  group_is : (g : NodeId) → contains_key m.groups g ≡ true → get laid.groups g ≡ Some (rec g)
  group_is g e = laid_group_is g (get m.groups g) refl e

  group_back : (g : NodeId) (x : GroupRecord) (o : Option GroupState) → get m.groups g ≡ o → get laid.groups g ≡ Some x → contains_key m.groups g ≡ true
  group_back g x None q e = never x (sym (lay_groups m t g ∙ ap (option_map (laid_group m t g)) q) ∙ e)
  group_back g x (Some y) q e = ap is_some q

  entry_back : (u : NodeId) (x : EntryRecord) (o : Option Versions) → get m.entries u ≡ o → get laid.entries u ≡ Some x → contains_key m.entries u ≡ true
  entry_back u x None q e = never x (sym (lay_entries m t u ∙ ap (λ o. record_of (stay_in m u) (versions_in o)) q) ∙ e)
  entry_back u x (Some y) q e = ap is_some q

  laid_kids : (g : NodeId) → contains_key m.groups g ≡ true → kids laid g ≡ laid_children m t g
  laid_kids g e = ap (λ o. unwrap_or o no_children) (lay_children m t g ∙ ap (λ b. cond b (Some (laid_children m t g)) None) e)

  children_back : (g : NodeId) (c : Children) → get laid.children g ≡ Some c → contains_key m.groups g ≡ true
  children_back g c e = found (contains_key m.groups g) refl (sym (lay_children m t g) ∙ e)
    where
      found : (b : Bool) → contains_key m.groups g ≡ b → cond b (Some (laid_children m t g)) None ≡ Some c → contains_key m.groups g ≡ true
      found true p q = p
      found false p q = never c q

  group_deep : (g : NodeId) → contains_key m.groups g ≡ true → (d : ℕ) × IsDeep m d g
  group_deep g e =
      let h : holds m g ≡ true = or_right (contains_key m.entries g) (contains_key m.groups g) e in
      let r = s.rooted g h in
      deep_of m s r.0 g h r.1

  -- a group of the list of groups of a laid group is one, and stands in it
  kid_group : (g u : NodeId) → contains_key m.groups g ≡ true → IsIn u (kids laid g).groups → (contains_key m.groups u ≡ true) × ((p : Place) × ((get m.places u ≡ Some p) × (g ≡ p.parent)))
  kid_group g u e h =
      let k = from_standing m g (keys m.groups) u (from_order (kids t g).groups (ids_in_group m g (keys m.groups)) u (subst (λ (c : Children). IsIn u c.groups) (laid_kids g e) h)) in
      (from_keys id_order.total id_order.same m.groups u k.0, k.1)

  kid_entry : (g u : NodeId) → contains_key m.groups g ≡ true → IsIn u (kids laid g).entries → contains_key m.entries u ≡ true
  kid_entry g u e h =
      from_keys id_order.total id_order.same m.entries u
      (from_standing m g (keys m.entries) u (from_order (kids t g).entries (ids_in_group m g (keys m.entries)) u (subst (λ (c : Children). IsIn u c.entries) (laid_kids g e) h))).0

  entry_is : (u : NodeId) (o : Option Versions) → get m.entries u ≡ o → contains_key m.entries u ≡ true → contains_key laid.entries u ≡ true
  entry_is u None q e = apart (contains_key m.entries u) e (ap is_some q)
  entry_is u (Some v) q e =
      let again : is_some (record_of (stay_in m u) (entries v)) ≡ true = some_record (entries v) refl in
      ap is_some (lay_entries m t u ∙ ap (λ o. record_of (stay_in m u) (versions_in o)) q) ∙ again
    where
      some_record : (es : List (Mark × Stats)) → entries v ≡ es → is_some (record_of (stay_in m u) es) ≡ true
      some_record [] p = absurd (s.versions u v q (ap (map (λ (e : Mark × Stats). e.0)) p))
      some_record (e ∷ es) p = refl

  -- ---- each row of children is the shape's

  same_children : (k : ℕ) (g : NodeId) → contains_key m.groups g ≡ true
      → get laid.children g ≡ Some (record { entries = map (λ (e : NodeId × EntryRecord). e.0) (with_records laid.entries (kids laid g).entries); groups = ids_of (all_trees (map (below laid k) (with_records laid.groups (kids laid g).groups))) })
  same_children k g e =
      let es = records_ids laid.entries (kids laid g).entries (λ u h. entry_is u (get m.entries u) refl (kid_entry g u e h)) in
      let gs = trees_ids laid k (with_records laid.groups (kids laid g).groups) ∙ records_ids laid.groups (kids laid g).groups (λ u h. ap is_some (group_is u (kid_group g u e h).0)) in
      lay_children m t g ∙ ap (λ b. cond b (Some (laid_children m t g)) None) e
      ∙ ap Some (sym (laid_kids g e)) ∙ (λ i. Some (record { entries = sym es i; groups = sym gs i }))

  children_right : (k d : ℕ) (g : NodeId) (r : GroupRecord) (e : NodeId × Children) → IsDeep m d g → d + k ≡ n → contains_key m.groups g ≡ true → IsIn e (child_rows (tree_of laid k g r)) → get laid.children e.0 ≡ Some e.1
  children_right zero d g r e deep sum is h = let less = fits d g is deep in absurd (omega (arith, less, sum))
  children_right (suc k) d g r e deep sum is (inl p) = subst (λ (w : NodeId × Children). get laid.children w.0 ≡ Some w.1) p (same_children k g is)
  children_right (suc k) d g r e deep sum is (inr h) =
      let f = children_among (map (below laid k) (with_records laid.groups (kids laid g).groups)) e h in
      let c = from_map (below laid k) (with_records laid.groups (kids laid g).groups) f.0 f.1.0 in
      let kid = kid_group g c.0.0 is (records_right laid.groups (kids laid g).groups c.0 c.1.0).1 in
      let deeper : IsDeep m (suc d) c.0.0 = (kid.1.0, kid.1.1.0, subst (IsDeep m d) kid.1.1.1 deep) in
      let sum' : suc d + k ≡ n = omega (arith, sum) in
      children_right k (suc d) c.0.0 c.0.1 e deeper sum' kid.0 (subst (λ (x : Tree). IsIn e (child_rows x)) (sym c.1.1) f.1.1)

  -- ---- every group's tree is inside the whole

  abbrev whole : Tree
  whole = tree_of laid n m.root (rec m.root)

  sub_tree : (d k : ℕ) (g : NodeId) → IsDeep m d g → d + k ≡ n → contains_key m.groups g ≡ true → Inside (tree_of laid k g (rec g)) whole
  sub_tree zero k g deep sum is =
      let same : k ≡ n = omega (arith, sum) in
      subst (λ (x : ℕ × NodeId). Inside (tree_of laid k g (rec g)) (tree_of laid x.0 x.1 (rec x.1))) (λ i. (same i, deep i))
      (record { entries = λ e h. h; groups = λ e h. h; children = λ e h. h })
  sub_tree (suc d) k g deep sum is =
      let p = deep.0 in
      let parent = s.parents g p deep.1 in
      let sum' : d + suc k ≡ n = omega (arith, sum) in
      let in_groups : IsIn g (kids laid p.parent).groups =
      subst (λ (c : Children). IsIn g c.groups) (sym (laid_kids p.parent parent))
      (into_order (kids t p.parent).groups (ids_in_group m p.parent (keys m.groups)) g (into_standing m (keys m.groups) g p (in_keys id_order.total id_order.same m.groups g is) deep.1)) in
      inside_through (tree_of laid k g (rec g)) (tree_of laid (suc k) p.parent (rec p.parent)) whole
      (child_inside laid k p.parent (rec p.parent) (g, rec g) (records_there laid.groups (kids laid p.parent).groups g (rec g) in_groups (group_is g is)))
      (sub_tree d (suc k) p.parent deep.2 sum' parent)

  group_inside : (g : NodeId) → contains_key m.groups g ≡ true → (k : ℕ) × Inside (tree_of laid k g (rec g)) whole
  group_inside g e =
      let d = group_deep g e in
      let less = fits d.0 g e d.1 in
      let sum : d.0 + (n - d.0) ≡ n = omega (arith, less) in
      (n - d.0, sub_tree d.0 (n - d.0) g d.1 sum e)

  -- ---- the whole

  entries_there : (u : NodeId) (x : EntryRecord) → get laid.entries u ≡ Some x → (y : EntryRecord) × IsIn (u, y) (entry_rows whole)
  entries_there u x e =
      let is = entry_back u x (get m.entries u) refl e in
      let held : holds m u ≡ true = or_left (contains_key m.entries u) (contains_key m.groups u) is in
      let off : u ≢ m.root = λ r. apart (contains_key m.groups u) (ap (contains_key m.groups) r ∙ s.root) (s.kinds u is) in
      let place = some_of (get m.places u) (s.placed u off ∙ held) in
      let parent = s.parents u place.0 place.1 in
      let i = group_inside place.0.parent parent in
      let in_entries : IsIn u (kids laid place.0.parent).entries =
      subst (λ (c : Children). IsIn u c.entries) (sym (laid_kids place.0.parent parent))
      (into_order (kids t place.0.parent).entries (ids_in_group m place.0.parent (keys m.entries)) u (into_standing m (keys m.entries) u place.0 (in_keys id_order.total id_order.same m.entries u is) place.1)) in
      (x, i.1.entries (u, x) (own_entry laid i.0 place.0.parent (rec place.0.parent) (u, x) (records_there laid.entries (kids laid place.0.parent).entries u x in_entries e)))

  groups_there : (u : NodeId) (x : GroupRecord) → get laid.groups u ≡ Some x → (y : GroupRecord) × IsIn (u, y) (group_rows whole)
  groups_there u x e =
      let i = group_inside u (group_back u x (get m.groups u) refl e) in
      (rec u, i.1.groups (u, rec u) (own_group laid i.0 u (rec u)))

  children_there : (g : NodeId) (c : Children) → get laid.children g ≡ Some c → (d : Children) × IsIn (g, d) (child_rows whole)
  children_there g c e =
      let i = group_inside g (children_back g c e) in
      let o = own_children laid i.0 g (rec g) in
      (o.0, i.1.children (g, o.0) o.1)

  zero_sum : zero + n ≡ n
  zero_sum = omega arith

  doc_tree : (doc_of n laid).tree ≡ whole
  unfolding doc_of
  doc_tree = λ i. tree_of laid n (lay_root m t i) (rec (lay_root m t i))

  shape_entries : (d : BareDoc) → (shape_of d).entries ≡ from_entries (entry_rows d.tree)
  unfolding shape_of
  shape_entries d = refl

  shape_groups : (d : BareDoc) → (shape_of d).groups ≡ from_entries (group_rows d.tree)
  unfolding shape_of
  shape_groups d = refl

  shape_children : (d : BareDoc) → (shape_of d).children ≡ from_entries (child_rows d.tree)
  unfolding shape_of
  shape_children d = refl

  shape_root : (d : BareDoc) → (shape_of d).root ≡ id_of d.tree
  unfolding shape_of
  shape_root d = refl

  shape_tombs : (shape_of (doc_of n laid)).tombs ≡ laid.tombs
  unfolding shape_of doc_of
  shape_tombs =
      ap from_entries (map_map (λ (e : NodeId × ℕ). record { id = e.0; deleted = e.1 }) (λ (x : Tombstone). (x.id, x.deleted)) (entries laid.tombs) ∙ map_id (entries laid.tombs))
      ∙ made_of_entries id_order.total id_order.same laid.tombs
    where
      map_id : (xs : List (NodeId × ℕ)) → map (λ (e : NodeId × ℕ). (e.0, e.1)) xs ≡ xs
      map_id [] = refl
      map_id (x ∷ xs) = ap (λ ys. x ∷ ys) (map_id xs)

  shape_meta : (shape_of (doc_of n laid)).meta ≡ laid.meta
  unfolding shape_of doc_of
  shape_meta = refl

  -- the tree that is made of the laid document has its shape
  pub shape_back : shape_of (doc_of n laid) ≡ laid
  shape_back = λ i. record {
    root = (shape_root (doc_of n laid) ∙ ap id_of doc_tree ∙ tree_id laid n m.root (rec m.root) ∙ sym (lay_root m t)) i;
    entries = (shape_entries (doc_of n laid) ∙ ap (λ x. from_entries (entry_rows x)) doc_tree
        ∙ made_from id_order.total id_order.same laid.entries (entry_rows whole) (λ e h. entries_right laid n m.root (rec m.root) e h) entries_there) i;
    groups = (shape_groups (doc_of n laid) ∙ ap (λ x. from_entries (group_rows x)) doc_tree
        ∙ made_from id_order.total id_order.same laid.groups (group_rows whole) (λ e h. groups_right laid n m.root (rec m.root) e (group_is m.root s.root) h) groups_there) i;
    children = (shape_children (doc_of n laid) ∙ ap (λ x. from_entries (child_rows x)) doc_tree
        ∙ made_from id_order.total id_order.same laid.children (child_rows whole) (λ e h. children_right n zero m.root (rec m.root) e refl zero_sum s.root h) children_there) i;
    tombs = shape_tombs i;
    meta = shape_meta i;
  }

-- A database laid over an older document has that database, and the document is settled.
pub laid_document : (n : ℕ) (m : Db) (t : BareDoc) → Sound m → FitsLevels n m → (db_in (lay_doc n m t) ≡ m) × IsSettled n (lay_doc n m t)
laid_document n m t s fits =
    let back = shape_back n m (shape_of t) s fits in
    let same : db_in (lay_doc n m t) ≡ m = ap db_of back ∙ laid_db m (shape_of t) s in
    (same, ap (doc_of n) ((λ i. lay (same i) (back i)) ∙ laid_again m (shape_of t) s))
