-- The tree that is made of a laid database: whose rows it has, who stands below whom, and that no id stands
-- in it twice.
use Rattle.std.proofs.Common.{◌≡◌, ◌≤◌, ◌+◌, ℕ, zero, suc, true, cond, inl, inr, List, [], ◌∷◌, ◌++◌, Option, Some, None, map, refl, sym, ap, subst, ◌∙◌, arith}
use Rattle.std.proofs.lemmas.Option.{same_Some}
use Rattle.std.specs.FinMap.{FinMap, get, contains_key, keys, entries_sorted}
use Rattle.std.specs.Option.{unwrap_or}
use Rattle.vault_model.specs.Db.{NodeId, id_cmp, Place, Db, holds, Sound}
use Rattle.vault_model.specs.Join.{IsIn}
use Rattle.vault_model.specs.Shape.{EntryRecord, GroupRecord, Children, Shape, kids, stands_in, laid_children, ids_in_group, no_children, lay}
use Rattle.vault_model.specs.Tree.{Tree, node_ids, node_ids_all, height, height_all, with_record, with_records, all_trees, tree_of, IsDeep, FitsLevels}
use Rattle.merge_core.proofs.Laid.{lay_children, from_order, from_standing}
use Rattle.vault_model.proofs.Orders.{id_order}
use Rattle.vault_model.proofs.Tests.{or_left, or_right, apart, in_either, in_map, from_map}
use Rattle.merge_core.proofs.Unite.{from_keys}
use Rattle.merge_core.proofs.Versions.{never}
use Rattle.merge_core.proofs.SoundDoc.{AreDistinct, distinct_head}
use Rattle.merge_core.proofs.TreeShape.{records_right}
use Rattle.merge_core.proofs.Distinct.{not_among, distinct_both, distinct_filter, distinct_order, distinct_keys}

-- ---- the records of some ids

module _ {A : Type 0} (m : FinMap id_cmp A) where
  -- the records of ids that stand once do so too
  pub distinct_records : (us : List NodeId) → AreDistinct us → AreDistinct (map (λ (e : NodeId × A). e.0) (with_records m us))
  distinct_records [] d = tt
  distinct_records (u ∷ us) d = one (get m u) (distinct_records us d.1)
    where
      one : (o : Option A) → AreDistinct (map (λ (e : NodeId × A). e.0) (with_records m us)) → AreDistinct (map (λ (e : NodeId × A). e.0) (with_record u o (with_records m us)))
      one None r = r
      one (Some x) r = (
        not_among u (map (λ (e : NodeId × A). e.0) (with_records m us)) (λ h.
            let f = from_map (λ (e : NodeId × A). e.0) (with_records m us) u h in
            distinct_head u us d (subst (λ (v : NodeId). IsIn v us) f.1.1 (records_right m us f.0 f.1.0).1)),
        r,
      )

-- ---- trees of a list

abbrev below : Shape → ℕ → NodeId × GroupRecord → Tree
below s k c = tree_of s k c.0 c.1

nodes_among : (ts : List Tree) (u : NodeId) → IsIn u (node_ids_all (all_trees ts)) → (t : Tree) × (IsIn t ts × IsIn u (node_ids t))
nodes_among [] u h = absurd h
nodes_among (t ∷ ts) u h =
    elim (in_either (node_ids t) (node_ids_all (all_trees ts)) u h) [
      | inl k ↦ (t, (inl refl, k))
      | inr k ↦ let f = nodes_among ts u k in (f.0, (inr f.1.0, f.1.1))
    ]

-- a node of the trees that are made of some rows is one of some row's tree
row_of : (s : Shape) (k : ℕ) (cs : List (NodeId × GroupRecord)) (u : NodeId) → IsIn u (node_ids_all (all_trees (map (below s k) cs)))
    → (c : NodeId × GroupRecord) × (IsIn c cs × IsIn u (node_ids (tree_of s k c.0 c.1)))
row_of s k cs u h =
    let f = nodes_among (map (below s k) cs) u h in
    let c = from_map (below s k) cs f.0 f.1.0 in
    (c.0, (c.1.0, subst (λ (t : Tree). IsIn u (node_ids t)) (sym c.1.1) f.1.1))

heights : (ts : List Tree) (k : ℕ) → ((t : Tree) → IsIn t ts → height t ≤ k) → height_all (all_trees ts) ≤ k
heights [] k each = omega arith
heights (t ∷ ts) k each =
    let here = each t (inl refl) in
    let rest = heights ts k (λ x h. each x (inr h)) in
    omega (arith, here, rest)

-- ---- who stands below whom

-- so many steps up lead from a node to another
abbrev IsUnder : Db → NodeId → ℕ → NodeId → Type 0
IsUnder m g zero u = u ≡ g
IsUnder m g (suc j) u = (p : Place) × ((get m.places u ≡ Some p) × IsUnder m g j p.parent)

under_up : (m : Db) (j : ℕ) (u c g : NodeId) (p : Place) → IsUnder m c j u → get m.places c ≡ Some p → g ≡ p.parent → IsUnder m g (suc j) u
under_up m zero u c g p e q r = (p, (ap (get m.places) e ∙ q, sym r))
under_up m (suc j) u c g p e q r = (e.0, (e.1.0, under_up m j e.0.parent c g p e.1.1 q r))

same_place : (m : Db) (u : NodeId) (p q : Place) → get m.places u ≡ Some p → get m.places u ≡ Some q → p.parent ≡ q.parent
same_place m u p q e f = ap (λ (x : Place). x.parent) (same_Some p q (sym e ∙ f))

one_above : (m : Db) (j : ℕ) (u a b : NodeId) → IsUnder m a j u → IsUnder m b j u → a ≡ b
one_above m zero u a b e f = sym e ∙ f
one_above m (suc j) u a b e f =
    one_above m j e.0.parent a b e.1.1 (subst (IsUnder m b j) (sym (same_place m u e.0 f.0 e.1.0 f.1.0)) f.1.1)

deep_under : (m : Db) (j d : ℕ) (u g : NodeId) → IsUnder m g j u → IsDeep m d g → (n : ℕ) × ((n ≡ j + d) × IsDeep m n u)
deep_under m zero d u g e deep = (d, (omega arith, subst (IsDeep m d) (sym e) deep))
deep_under m (suc j) d u g e deep =
    let f = deep_under m j d e.0.parent g e.1.1 deep in
    let is = f.1.0 in
    (suc f.0, (omega (arith, is), (e.0, e.1.0, f.1.1)))

module _ (m : Db) (s : Sound m) where
  -- a node is so many steps below the root, and no other number of them
  one_depth : (a b : ℕ) (u : NodeId) → IsDeep m a u → IsDeep m b u → a ≡ b
  one_depth zero zero u e f = refl
  one_depth zero (suc b) u e f = never f.0 (sym (ap (get m.places) e ∙ s.top) ∙ f.1)
  one_depth (suc a) zero u e f = never e.0 (sym (ap (get m.places) f ∙ s.top) ∙ e.1)
  one_depth (suc a) (suc b) u e f =
      ap suc (one_depth a b e.0.parent e.2 (subst (IsDeep m b) (sym (same_place m u e.0 f.0 e.1 f.1)) f.2))

  -- below a group of some depth
  depth_is : (i j d e : ℕ) (u g h : NodeId) → IsUnder m g i u → IsDeep m d g → IsUnder m h j u → IsDeep m e h → i + d ≡ j + e
  depth_is i j d e u g h x deep y deeper =
      let a = deep_under m i d u g x deep in
      let b = deep_under m j e u h y deeper in
      sym a.1.0 ∙ one_depth a.0 b.0 u a.1.1 b.1.1 ∙ b.1.0

  entry_no_group : (u : NodeId) → contains_key m.entries u ≡ true → contains_key m.groups u ≡ true → ⊥
  entry_no_group u e g = apart (contains_key m.groups u) g (s.kinds u e)

  module _ (t : Shape) (once : (g : NodeId) → AreDistinct (kids t g).entries × AreDistinct (kids t g).groups) where
    abbrev laid : Shape
    laid = lay m t

    abbrev entries_at : NodeId → List (NodeId × EntryRecord)
    entries_at g = with_records laid.entries (kids laid g).entries

    abbrev groups_at : NodeId → List (NodeId × GroupRecord)
    groups_at g = with_records laid.groups (kids laid g).groups

    abbrev ids_at : NodeId → List NodeId
    ids_at g = map (λ (e : NodeId × EntryRecord). e.0) (entries_at g)

    laid_kids : (g : NodeId) → contains_key m.groups g ≡ true → kids laid g ≡ laid_children m t g
    laid_kids g e = ap (λ o. unwrap_or o no_children) (lay_children m t g ∙ ap (λ b. cond b (Some (laid_children m t g)) None) e)

    -- a laid group's entries are entries, and stand in it
    kid_entry : (g u : NodeId) → contains_key m.groups g ≡ true → IsIn u (ids_at g) → (contains_key m.entries u ≡ true) × IsUnder m g (suc zero) u
    kid_entry g u e h =
        let f = from_map (λ (x : NodeId × EntryRecord). x.0) (entries_at g) u h in
        let i = subst (λ (v : NodeId). IsIn v (kids laid g).entries) f.1.1 (records_right laid.entries (kids laid g).entries f.0 f.1.0).1 in
        let k =
        from_standing m g (keys m.entries) u (from_order (kids t g).entries (ids_in_group m g (keys m.entries)) u
        (subst (λ (c : Children). IsIn u c.entries) (laid_kids g e) i)) in
        (from_keys id_order.total id_order.same m.entries u k.0, (k.1.0, (k.1.1.0, sym k.1.1.1)))

    -- its groups are groups, and stand in it
    kid_group : (g : NodeId) (c : NodeId × GroupRecord) → contains_key m.groups g ≡ true → IsIn c (groups_at g)
        → (contains_key m.groups c.0 ≡ true) × ((p : Place) × ((get m.places c.0 ≡ Some p) × (g ≡ p.parent)))
    kid_group g c e h =
        let i = (records_right laid.groups (kids laid g).groups c h).1 in
        let k =
        from_standing m g (keys m.groups) c.0 (from_order (kids t g).groups (ids_in_group m g (keys m.groups)) c.0
        (subst (λ (x : Children). IsIn c.0 x.groups) (laid_kids g e) i)) in
        (from_keys id_order.total id_order.same m.groups c.0 k.0, k.1)

    kid_deep : (d : ℕ) (g : NodeId) (c : NodeId × GroupRecord) → IsDeep m d g → contains_key m.groups g ≡ true → IsIn c (groups_at g) → IsDeep m (suc d) c.0
    kid_deep d g c deep e h =
        let k = kid_group g c e h in
        (k.1.0, k.1.1.0, subst (IsDeep m d) k.1.1.1 deep)

    held_group : (g u : NodeId) → contains_key m.groups g ≡ true → g ≡ u → holds m u ≡ true
    held_group g u e p = or_right (contains_key m.entries u) (contains_key m.groups u) (ap (contains_key m.groups) (sym p) ∙ e)

    held_entry : (g u : NodeId) → contains_key m.groups g ≡ true → IsIn u (ids_at g) → (holds m u ≡ true) × ((j : ℕ) × IsUnder m g j u)
    held_entry g u e i =
        let x = kid_entry g u e i in
        (or_left (contains_key m.entries u) (contains_key m.groups u) x.0, (suc zero, x.1))

    -- the nodes of a group's tree are held, and stand below it
    pub node_under : (k : ℕ) (g : NodeId) (r : GroupRecord) (u : NodeId) → contains_key m.groups g ≡ true → IsIn u (node_ids (tree_of laid k g r))
        → (holds m u ≡ true) × ((j : ℕ) × IsUnder m g j u)
    node_under zero g r u e (inl p) = (held_group g u e p, (zero, sym p))
    node_under zero g r u e (inr h) =
        elim (in_either (ids_at g) [] u h) [
          | inl i ↦ held_entry g u e i
          | inr x ↦ absurd x
        ]
    node_under (suc k) g r u e (inl p) = (held_group g u e p, (zero, sym p))
    node_under (suc k) g r u e (inr h) =
        elim (in_either (ids_at g) (node_ids_all (all_trees (map (below laid k) (groups_at g)))) u h) [
          | inl i ↦ held_entry g u e i
          | inr i ↦
              let c = row_of laid k (groups_at g) u i in
              let kid = kid_group g c.0 e c.1.0 in
              let f = node_under k c.0.0 c.0.1 u kid.0 c.1.1 in
              (f.0, (suc f.1.0, under_up m f.1.0 u c.0.0 g kid.1.0 f.1.1 kid.1.1.0 kid.1.1.1))
        ]

    -- ---- no id stands twice

    distinct_entries : (g : NodeId) → contains_key m.groups g ≡ true → AreDistinct (ids_at g)
    distinct_entries g e =
        distinct_records laid.entries (kids laid g).entries
        (subst (λ (c : Children). AreDistinct c.entries) (sym (laid_kids g e))
        (distinct_order (kids t g).entries (ids_in_group m g (keys m.entries)) (once g).0
        (distinct_filter (λ u. stands_in g (get m.places u)) (keys m.entries) (distinct_keys _ (entries_sorted m.entries)))))

    distinct_groups : (g : NodeId) → contains_key m.groups g ≡ true → AreDistinct (map (λ (c : NodeId × GroupRecord). c.0) (groups_at g))
    distinct_groups g e =
        distinct_records laid.groups (kids laid g).groups
        (subst (λ (c : Children). AreDistinct c.groups) (sym (laid_kids g e))
        (distinct_order (kids t g).groups (ids_in_group m g (keys m.groups)) (once g).1
        (distinct_filter (λ u. stands_in g (get m.places u)) (keys m.groups) (distinct_keys _ (entries_sorted m.groups)))))

    -- trees side by side, none of which has a node of another
    distinct_all : (k : ℕ) (cs : List (NodeId × GroupRecord)) → AreDistinct (map (λ (c : NodeId × GroupRecord). c.0) cs)
        → ((c : NodeId × GroupRecord) → IsIn c cs → AreDistinct (node_ids (tree_of laid k c.0 c.1)))
        → ((b c : NodeId × GroupRecord) (u : NodeId) → IsIn b cs → IsIn c cs → IsIn u (node_ids (tree_of laid k b.0 b.1)) → IsIn u (node_ids (tree_of laid k c.0 c.1)) → b.0 ≡ c.0)
        → AreDistinct (node_ids_all (all_trees (map (below laid k) cs)))
    distinct_all k [] d each same = tt
    distinct_all k (c ∷ cs) d each same =
        distinct_both (node_ids (tree_of laid k c.0 c.1)) (node_ids_all (all_trees (map (below laid k) cs))) (each c (inl refl))
        (distinct_all k cs d.1 (λ b h. each b (inr h)) (λ a b u h i. same a b u (inr h) (inr i)))
        (λ u h i.
        let f = row_of laid k cs u i in
        let e = same c f.0 u (inl refl) (inr f.1.0) h f.1.1 in
        distinct_head c.0 (map (λ (x : NodeId × GroupRecord). x.0) cs) d
        (subst (λ (v : NodeId). IsIn v (map (λ (x : NodeId × GroupRecord). x.0) cs)) (sym e) (in_map (λ (x : NodeId × GroupRecord). x.0) cs f.0 f.1.0)))

    module _ (d : ℕ) (g : NodeId) (deep : IsDeep m d g) (is : contains_key m.groups g ≡ true) where
      -- the group itself is none of its entries, and stands below none of its groups
      head_entry : IsIn g (ids_at g) → ⊥
      head_entry h = entry_no_group g (kid_entry g g is h).0 is

      head_below : (k : ℕ) → IsIn g (node_ids_all (all_trees (map (below laid k) (groups_at g)))) → ⊥
      head_below k h =
          let c = row_of laid k (groups_at g) g h in
          let f = node_under k c.0.0 c.0.1 g (kid_group g c.0 is c.1.0).0 c.1.1 in
          let off = depth_is f.1.0 zero (suc d) d g c.0.0 g f.1.1 (kid_deep d g c.0 deep is c.1.0) refl deep in
          absurd (omega (arith, off))

      -- an entry of the group stands below none of its groups
      entry_below : (k : ℕ) (u : NodeId) → IsIn u (ids_at g) → IsIn u (node_ids_all (all_trees (map (below laid k) (groups_at g)))) → ⊥
      entry_below k u h i =
          let x = kid_entry g u is h in
          let c = row_of laid k (groups_at g) u i in
          let kid = (kid_group g c.0 is c.1.0).0 in
          let f = node_under k c.0.0 c.0.1 u kid c.1.1 in
          at c.0.0 f.1.0 f.1.1 x.0 kid (depth_is f.1.0 (suc zero) (suc d) d u c.0.0 g f.1.1 (kid_deep d g c.0 deep is c.1.0) x.1 deep)
        where
          at : (h : NodeId) (j : ℕ) → IsUnder m h j u → contains_key m.entries u ≡ true → contains_key m.groups h ≡ true → j + suc d ≡ suc zero + d → ⊥
          at h zero e x y off = entry_no_group u x (ap (contains_key m.groups) e ∙ y)
          at h (suc j) e x y off = absurd (omega (arith, off))

      -- a node stands below one of the group's groups
      one_kid : (k : ℕ) (b c : NodeId × GroupRecord) (u : NodeId) → IsIn b (groups_at g) → IsIn c (groups_at g)
          → IsIn u (node_ids (tree_of laid k b.0 b.1)) → IsIn u (node_ids (tree_of laid k c.0 c.1)) → b.0 ≡ c.0
      one_kid k b c u h i x y =
          let e = node_under k b.0 b.1 u (kid_group g b is h).0 x in
          let f = node_under k c.0 c.1 u (kid_group g c is i).0 y in
          let off = depth_is e.1.0 f.1.0 (suc d) (suc d) u b.0 c.0 e.1.1 (kid_deep d g b deep is h) f.1.1 (kid_deep d g c deep is i) in
          let same : e.1.0 ≡ f.1.0 = omega (arith, off) in
          one_above m f.1.0 u b.0 c.0 (subst (λ (j : ℕ). IsUnder m b.0 j u) same e.1.1) f.1.1

    pub distinct_tree : (k d : ℕ) (g : NodeId) (r : GroupRecord) → IsDeep m d g → contains_key m.groups g ≡ true → AreDistinct (node_ids (tree_of laid k g r))
    distinct_tree zero d g r deep is = (
      not_among g (ids_at g ++ []) (λ h. elim (in_either (ids_at g) [] g h) [ inl i ↦ head_entry d g deep is i | inr x ↦ absurd x ]),
      distinct_both (ids_at g) [] (distinct_entries g is) tt (λ u h x. x),
    )
    distinct_tree (suc k) d g r deep is =
        let rest = node_ids_all (all_trees (map (below laid k) (groups_at g))) in (
          not_among g (ids_at g ++ rest) (λ h. elim (in_either (ids_at g) rest g h) [
            | inl i ↦ head_entry d g deep is i
            | inr i ↦ head_below d g deep is k i
          ]),
          distinct_both (ids_at g) rest (distinct_entries g is)
              (distinct_all k (groups_at g) (distinct_groups g is)
              (λ c h. distinct_tree k (suc d) c.0 c.1 (kid_deep d g c deep is h) (kid_group g c is h).0)
              (one_kid d g deep is k))
              (entry_below d g deep is k),
        )

    -- where no group is below level n, so many levels are made
    pub fits_height : (n : ℕ) → FitsLevels n m → (k d : ℕ) (g : NodeId) (r : GroupRecord) → IsDeep m d g → contains_key m.groups g ≡ true → d + k ≡ n → height (tree_of laid k g r) ≤ k
    fits_height n fits zero d g r deep is sum = let less = fits d g is deep in absurd (omega (arith, less, sum))
    fits_height n fits (suc k) d g r deep is sum =
        let rest = heights (map (below laid k) (groups_at g)) k (λ t h.
        let c = from_map (below laid k) (groups_at g) t h in
        let sum' : suc d + k ≡ n = omega (arith, sum) in
        subst (λ (x : Tree). height x ≤ k) c.1.1 (fits_height n fits k (suc d) c.0.0 c.0.1 (kid_deep d g c.0 deep is c.1.0) (kid_group g c.0 is c.1.0).0 sum')) in
        omega (arith, rest)
