-- Plans and schedules over agreed members.
use Rattle.std.proofs.Common.{◌≡◌, ℕ, Bool, true, false, cond, inl, inr, List, [], ◌∷◌, ◌++◌, Option, Some, None, not, map, is_some, refl, sym, ap, subst, ◌∙◌}
use Rattle.std.specs.Cmp.{both_ways}
use Rattle.std.specs.FinMap.{get, contains_key, same_map}
use Rattle.std.specs.Option.{unwrap_or}
use Rattle.vault_model.specs.Db.{NodeId, Db, holds, Sound}
use Rattle.vault_model.specs.Join.{no_meta, own, kept, join, IsIn, IsWithin, IsNotEmpty, IsPart, Allowed, Agreed}
use Rattle.vault_model.specs.Plans.{Plan, leaf, merge, Plans, none, more, value, values, tree, tree_dbs, leaves, all_leaves, IsAllowed, AreAllowed, Fits, AllFit}
use Rattle.vault_model.specs.Tree.{BareDoc, db_in, lay_doc, IsSettled}
use Rattle.vault_model.specs.Unite.{gather}
use Rattle.merge_core.proofs.Facts.{placed_held, join_entries, join_groups, join_places, join_tombs, join_root, part_root, alive_from_own, own_from_alive, held_by}
use Rattle.merge_core.proofs.Joins.{versions_joins, state_joins, places_joins, meta_joins}
use Rattle.vault_model.proofs.Orders.{id_order}
use Rattle.merge_core.proofs.Semilattice.{IsJoin, max_join, gather-same, merged_none}
use Rattle.merge_core.proofs.SoundJoin.{join_meta}
use Rattle.vault_model.proofs.Tests.{some_of, any_found, in_map, from_map, in_front, in_back, in_either, or_cases, or_left, or_right, apart}
use Rattle.merge_core.proofs.TreeShape.{laid_document}
use Rattle.merge_core.specs.JoinLaws.{AreParts, end_to_end, Names}
use Rattle.merge_core.proofs.Regroup.{part_kept, part_join_sound, join_of_joins, joins_allowed, end_part, some_end}

-- ---- members in any order

module _ (S : List Db) (a : Agreed S) (R Q : List Db) (partR : IsPart R S) (partQ : IsPart Q S) (into : IsWithin R Q) (back : IsWithin Q R) where
  one_way : (X Y : List Db) → IsPart X S → IsPart Y S → IsWithin X Y → IsWithin Y X → (u : NodeId) → own X u ≡ true → own Y u ≡ true
  one_way X Y x y f g u e =
      let alive = alive_from_own a.compatible X x u e in
      let m = any_found (λ (n : Db). holds n u) X alive.0 in
      own_from_alive a.compatible Y y u (held_by Y m.0 u (f m.0 m.1.0) m.1.1) (λ n h. alive.1 n (g n h))

  same_own : (u : NodeId) → own R u ≡ own Q u
  same_own u = both_ways (own R u) (own Q u) (one_way R Q partR partQ into back u) (one_way Q R partQ partR back into u)

  same_kept : (u : NodeId) → kept R u ≡ kept Q u
  same_kept u = part_kept S R a partR u ∙ same_own u ∙ sym (part_kept S Q a partQ u)

  same_column : {A : Type 0} {f : A → A → A} → IsJoin f → (col : Db → Option A) → gather f (map col R) ≡ gather f (map col Q)
  same_column j col =
      gather-same j (map col R) (map col Q)
      (λ o h. let m = from_map col R o h in subst (λ (x : Option _). IsIn x (map col Q)) m.1.1 (in_map col Q m.0 (into m.0 m.1.0)))
      (λ o h. let m = from_map col Q o h in subst (λ (x : Option _). IsIn x (map col R)) m.1.1 (in_map col R m.0 (back m.0 m.1.0)))

  -- lists with the same members have the same join
  pub alike_join : join R ≡ join Q
  alike_join = λ i. record {
    root = (join_root R ∙ part_root R S a.compatible.root partR ∙ sym (part_root Q S a.compatible.root partQ) ∙ sym (join_root Q)) i;
    entries = same_map id_order.total id_order.same (join R).entries (join Q).entries (λ u.
        join_entries R u ∙ (λ k. cond (same_kept u k) (same_column versions_joins (λ (m : Db). get m.entries u) k) None) ∙ sym (join_entries Q u)) i;
    groups = same_map id_order.total id_order.same (join R).groups (join Q).groups (λ u.
        join_groups R u ∙ (λ k. cond (same_kept u k) (same_column state_joins (λ (m : Db). get m.groups u) k) None) ∙ sym (join_groups Q u)) i;
    places = same_map id_order.total id_order.same (join R).places (join Q).places (λ u.
        join_places R u ∙ (λ k. cond (same_kept u k) (same_column places_joins (λ (m : Db). get m.places u) k) None) ∙ sym (join_places Q u)) i;
    tombs = same_map id_order.total id_order.same (join R).tombs (join Q).tombs (λ u.
        join_tombs R u ∙ (λ k. cond (not (same_kept u k)) (same_column max_join (λ (m : Db). get m.tombs u) k) None) ∙ sym (join_tombs Q u)) i;
    meta = (join_meta R ∙ ap (λ o. unwrap_or o no_meta) (same_column meta_joins (λ (m : Db). Some m.meta)) ∙ sym (join_meta Q)) i;
  }

-- ---- one member

module _ (S : List Db) (a : Agreed S) (m : Db) (h : IsIn m S) where
  alone : IsPart (m ∷ []) S
  alone = (tt, λ n k. elim k [ inl p ↦ subst (λ (x : Db). IsIn x S) p h | inr x ↦ absurd x ])

  sound : Sound m
  sound = a.compatible.sound m h

  own_holds : (u : NodeId) → own (m ∷ []) u ≡ holds m u
  own_holds u = both_ways (own (m ∷ []) u) (holds m u)
      (λ e. elim (or_cases (holds m u) false (alive_from_own a.compatible (m ∷ []) alone u e).0) [ inl x ↦ x | inr x ↦ apart false x refl ])
      (λ e. own_from_alive a.compatible (m ∷ []) alone u (or_left (holds m u) false e) (λ n k. elim k [
        | inl p ↦ subst (λ (x : Db). get x.tombs u ≡ None) p (sound.alive u e)
        | inr x ↦ absurd x
      ]))

  kept_holds : (u : NodeId) → kept (m ∷ []) u ≡ holds m u
  kept_holds u = part_kept S (m ∷ []) a alone u ∙ own_holds u

  -- what is held stays, and nothing else is there
  nothing : {A : Type 0} (b : Bool) (o : Option A) → o ≡ None → cond b o None ≡ o
  nothing true o e = refl
  nothing false o e = sym e

  stays : {A : Type 0} (o : Option A) (b : Bool) → (is_some o ≡ true → b ≡ true) → cond b o None ≡ o
  stays None b f = nothing b None refl
  stays (Some x) b f = ap (λ c. cond c (Some x) None) (f refl)

  gone : (o : Option ℕ) (b : Bool) → (b ≡ true → o ≡ None) → cond (not b) o None ≡ o
  gone o true f = sym (f refl)
  gone o false f = refl

  -- a member alone is its own join
  pub join_one : join (m ∷ []) ≡ m
  join_one = λ i. record {
    root = join_root (m ∷ []) i;
    entries = same_map id_order.total id_order.same (join (m ∷ [])).entries m.entries (λ u.
        join_entries (m ∷ []) u ∙ (λ k. cond (kept_holds u k) (merged_none versions_joins (get m.entries u) k) None)
        ∙ stays (get m.entries u) (holds m u) (λ e. or_left (contains_key m.entries u) (contains_key m.groups u) e)) i;
    groups = same_map id_order.total id_order.same (join (m ∷ [])).groups m.groups (λ u.
        join_groups (m ∷ []) u ∙ (λ k. cond (kept_holds u k) (merged_none state_joins (get m.groups u) k) None)
        ∙ stays (get m.groups u) (holds m u) (λ e. or_right (contains_key m.entries u) (contains_key m.groups u) e)) i;
    places = same_map id_order.total id_order.same (join (m ∷ [])).places m.places (λ u.
        join_places (m ∷ []) u ∙ (λ k. cond (kept_holds u k) (merged_none places_joins (get m.places u) k) None)
        ∙ stays (get m.places u) (holds m u) (placed_is u)) i;
    tombs = same_map id_order.total id_order.same (join (m ∷ [])).tombs m.tombs (λ u.
        join_tombs (m ∷ []) u ∙ (λ k. cond (not (kept_holds u k)) (merged_none max_join (get m.tombs u) k) None)
        ∙ gone (get m.tombs u) (holds m u) (λ e. sound.alive u e)) i;
    meta = join_meta (m ∷ []) i;
  }
    where
      placed_is : (u : NodeId) → is_some (get m.places u) ≡ true → holds m u ≡ true
      placed_is u e = let p = some_of (get m.places u) e in (placed_held m u p.0 sound p.1).1

-- ---- plans

leaves_some : (p : Plan) → IsNotEmpty (leaves p)
leaves_some (leaf d) = tt
leaves_some (merge p ps) = some_end (leaves p) (all_leaves ps) (leaves_some p)

abbrev leaf_lists : Plans → List (List Db)
leaf_lists none = []
leaf_lists (more p ps) = leaves p ∷ leaf_lists ps

lists_end : (ps : Plans) → end_to_end (leaf_lists ps) ≡ all_leaves ps
lists_end none = refl
lists_end (more p ps) = ap (λ x. leaves p ++ x) (lists_end ps)

front_within : (X Y S : List Db) → IsWithin (X ++ Y) S → IsWithin X S
front_within X Y S f m h = f m (in_front X Y m h)

back_within : (X Y S : List Db) → IsWithin (X ++ Y) S → IsWithin Y S
back_within X Y S f m h = f m (in_back X Y m h)

module _ (S : List Db) (a : Agreed S) where
  lists_parts : (ps : Plans) → IsWithin (all_leaves ps) S → AreParts (leaf_lists ps) S
  lists_parts none f = tt
  lists_parts (more p ps) f =
      ((leaves_some p, front_within (leaves p) (all_leaves ps) S f), lists_parts ps (back_within (leaves p) (all_leaves ps) S f))

  plan_parts : (p : Plan) (ps : Plans) → IsWithin (leaves (merge p ps)) S → AreParts (leaves p ∷ leaf_lists ps) S
  plan_parts p ps f =
      ((leaves_some p, front_within (leaves p) (all_leaves ps) S f), lists_parts ps (back_within (leaves p) (all_leaves ps) S f))

  -- the value of a plan is the join of its leaves
  mutual
    pub plan_value : (p : Plan) → IsWithin (leaves p) S → value p ≡ join (leaves p)
    plan_value (leaf d) f = sym (join_one S a (db_in d) (f (db_in d) (inl refl)))
    plan_value (merge p ps) f =
        (λ i. join (plan_value p (front_within (leaves p) (all_leaves ps) S f) i ∷ plan_values ps (back_within (leaves p) (all_leaves ps) S f) i))
        ∙ join_of_joins S a (leaves p ∷ leaf_lists ps) tt (plan_parts p ps f)
        ∙ ap (λ x. join (leaves p ++ x)) (lists_end ps)

    pub plan_values : (ps : Plans) → IsWithin (all_leaves ps) S → values ps ≡ map join (leaf_lists ps)
    plan_values none f = refl
    plan_values (more p ps) f = λ i. plan_value p (front_within (leaves p) (all_leaves ps) S f) i ∷ plan_values ps (back_within (leaves p) (all_leaves ps) S f) i

  -- every list that is joined on the way can be joined
  mutual
    pub plan_allowed : (p : Plan) → IsWithin (leaves p) S → IsAllowed p
    plan_allowed (leaf d) f = tt
    plan_allowed (merge p ps) f =
        let g = front_within (leaves p) (all_leaves ps) S f in
        let h = back_within (leaves p) (all_leaves ps) S f in (
          subst Allowed (λ i. sym (plan_value p g) i ∷ sym (plan_values ps h) i) (joins_allowed S a (leaves p ∷ leaf_lists ps) tt (plan_parts p ps f)),
          (plan_allowed p g, plans_allowed ps h),
        )

    plans_allowed : (ps : Plans) → IsWithin (all_leaves ps) S → AreAllowed ps
    plans_allowed none f = tt
    plans_allowed (more p ps) f = (plan_allowed p (front_within (leaves p) (all_leaves ps) S f), plans_allowed ps (back_within (leaves p) (all_leaves ps) S f))

  value_sound : (p : Plan) → IsWithin (leaves p) S → Sound (value p)
  value_sound p f = subst Sound (sym (plan_value p f)) (part_join_sound S (leaves p) a (leaves_some p, f))

  -- the document that a plan writes has the plan's value
  mutual
    pub plan_tree : (n : ℕ) (p : Plan) → IsWithin (leaves p) S → Fits n p → db_in (tree n p) ≡ value p
    plan_tree n (leaf d) f fit = refl
    plan_tree n (merge p ps) f fit =
        let first = plan_tree n p (front_within (leaves p) (all_leaves ps) S f) fit.1.0 in
        let rest = plan_trees n ps (back_within (leaves p) (all_leaves ps) S f) fit.1.1 in
        ap (λ (m : Db). db_in (lay_doc n m (tree n p))) (λ i. join (first i ∷ rest i))
        ∙ (laid_document n (value (merge p ps)) (tree n p) (value_sound (merge p ps) f) fit.0).0

    plan_trees : (n : ℕ) (ps : Plans) → IsWithin (all_leaves ps) S → AllFit n ps → tree_dbs n ps ≡ values ps
    plan_trees n none f fit = refl
    plan_trees n (more p ps) f fit =
        let first = plan_tree n p (front_within (leaves p) (all_leaves ps) S f) fit.0 in
        let rest = plan_trees n ps (back_within (leaves p) (all_leaves ps) S f) fit.1 in
        λ i. first i ∷ rest i

  pub plan_join : (p : Plan) → Names p S → IsNotEmpty S → value p ≡ join S
  plan_join p names some =
      plan_value p names.0 ∙ alike_join S a (leaves p) S (leaves_some p, names.0) (some, λ m h. h) names.0 names.1

  -- ---- merging again

  pub merged_again : (n : ℕ) (R : List Db) (Rs : List (List Db)) (t : BareDoc) → IsPart R S → AreParts Rs R → db_in t ≡ join R → IsSettled n t
      → lay_doc n (join (db_in t ∷ map join Rs)) t ≡ t
  merged_again n R Rs t part parts is settled =
      let into = parts_within Rs parts in
      let all_parts : AreParts (R ∷ Rs) S = (part, parts_through Rs parts) in
      let same : join (db_in t ∷ map join Rs) ≡ db_in t =
      ap (λ (m : Db). join (m ∷ map join Rs)) is
      ∙ join_of_joins S a (R ∷ Rs) tt all_parts
      ∙ alike_join S a (R ++ end_to_end Rs) R (end_part S (R ∷ Rs) tt all_parts) part
      (λ m h. elim (in_either R (end_to_end Rs) m h) [ inl x ↦ x | inr x ↦ into m x ]) (λ m h. in_front R (end_to_end Rs) m h)
      ∙ sym is in
      ap (λ (m : Db). lay_doc n m t) same ∙ settled
    where
      parts_within : (Qs : List (List Db)) → AreParts Qs R → IsWithin (end_to_end Qs) R
      parts_within [] f m h = absurd h
      parts_within (Q ∷ Qs) f m h = elim (in_either Q (end_to_end Qs) m h) [ inl x ↦ f.0.1 m x | inr x ↦ parts_within Qs f.1 m x ]

      parts_through : (Qs : List (List Db)) → AreParts Qs R → AreParts Qs S
      parts_through [] f = tt
      parts_through (Q ∷ Qs) f = ((f.0.0, λ m h. part.1 m (f.0.1 m h)), parts_through Qs f.1)

-- a set that a plan names is not empty
pub names_some : (S : List Db) (p : Plan) → Names p S → IsNotEmpty S
names_some S p names = from_first (leaves p) (leaves_some p) names.0
  where
    has : (xs : List Db) (x : Db) → IsIn x xs → IsNotEmpty xs
    has [] x h = absurd h
    has (y ∷ ys) x h = tt

    from_first : (xs : List Db) → IsNotEmpty xs → IsWithin xs S → IsNotEmpty S
    from_first [] e f = absurd e
    from_first (x ∷ xs) e f = has S x (f x (inl refl))
