-- Parts of an agreed set: what their joins hold, that the joins agree again, and that the join of the
-- joins is the join of all.
use Rattle.std.proofs.Common.{◌≡◌, ◌≤◌, ℕ, Bool, true, false, not, cond, ◌⊎◌, inl, inr, List, [], ◌∷◌, ◌++◌, Option, Some, None, map, max, is_some, refl, sym, ap, subst, ◌∙◌, arith}
use Rattle.std.specs.Cmp.{both_ways}
use Rattle.std.specs.FinMap.{FinMap, get, contains_key, same_map}
use Rattle.std.specs.Option.{unwrap_or}
use Rattle.vault_model.specs.declared.nodes.GroupState.{GroupState}
use Rattle.vault_model.specs.Db.{NodeId, id_cmp, Versions, Place, SharedMeta, Db, holds, newest, state_time, stamp_in, parent_or, Sound}
use Rattle.vault_model.specs.Join.{stats_join, state_join, meta_join, no_meta, root_of, latest, above, is_held, own, kept, join, IsIn, IsWithin, IsNotEmpty, IsPart, IsAcyclic, Allowed, KeepsParents, Compatible, Agreed}
use Rattle.vault_model.specs.Unite.{join_options, gather, unite}
use Rattle.merge_core.proofs.Facts.{join_entries, join_groups, join_places, join_tombs, join_root, part_root, part_sound, part_roots, alive_from_own, own_from_alive, next_own, kept-own, placed_held, held_by}
use Rattle.merge_core.proofs.Joins.{versions_joins, state_joins, places_joins, meta_joins}
use Rattle.vault_model.proofs.Orders.{id_order}
use Rattle.merge_core.proofs.Paths.{steps_same}
use Rattle.merge_core.proofs.Semilattice.{IsJoin, max_join, gather-append, gather-selects, none-gather, some-gather}
use Rattle.merge_core.proofs.SoundJoin.{join_holds, join_sound, join_meta, entry_kept, group_kept}
use Rattle.vault_model.proofs.Tests.{or_left, or_right, apart, is_false, decide, none_of, any_found, in_front, in_back, in_either, in_map, from_map, map_append}
use Rattle.merge_core.proofs.Versions.{never, newest_below, state_below}
use Rattle.merge_core.specs.JoinLaws.{AreParts, end_to_end}

-- ---- one part

pub part_allowed : (S R : List Db) → Agreed S → IsPart R S → Allowed R
part_allowed S R a part = record {
  some = part.0;
  root = part_roots a.compatible R part;
  kinds = λ m n u h k. a.compatible.kinds m n u (part.1 m h) (part.1 n k);
  acyclic = a.acyclic R part;
}

pub part_kept : (S R : List Db) → Agreed S → IsPart R S → (u : NodeId) → kept R u ≡ own R u
part_kept S R a part u = kept-own a.compatible R part (a.filled R part) u

pub part_join_sound : (S R : List Db) → Agreed S → IsPart R S → Sound (join R)
part_join_sound S R a part = join_sound R (part_allowed S R a part) (part_sound a.compatible R part)

-- the join of a part holds its own nodes
pub holds_own : (S R : List Db) → Agreed S → IsPart R S → (u : NodeId) → holds (join R) u ≡ own R u
holds_own S R a part u = join_holds R (part_allowed S R a part) (part_sound a.compatible R part) u ∙ part_kept S R a part u

all_none : (R : List Db) (u : NodeId) → ((m : Db) → IsIn m R → get m.tombs u ≡ None) → gather max (map (λ (m : Db). get m.tombs u) R) ≡ None
all_none R u none =
    none-gather max (map (λ (m : Db). get m.tombs u) R) (λ o h. let f = from_map (λ (m : Db). get m.tombs u) R o h in sym f.1.1 ∙ none f.0 f.1.0)

-- and has the latest tombstones
pub keeps_tombs : (S R : List Db) → Agreed S → IsPart R S → (u : NodeId) → get (join R).tombs u ≡ gather max (map (λ (m : Db). get m.tombs u) R)
keeps_tombs S R a part u =
    elim (decide (kept R u)) [
      | inl k ↦
          join_tombs R u ∙ ap (λ b. cond (not b) (gather max (map (λ (m : Db). get m.tombs u) R)) None) k
          ∙ sym (all_none R u (alive_from_own a.compatible R part u (sym (part_kept S R a part u) ∙ k)).1)
      | inr k ↦ join_tombs R u ∙ ap (λ b. cond (not b) (gather max (map (λ (m : Db). get m.tombs u) R)) None) k
    ]

gather_none : {A : Type 0} (f : A → A → A) (xs : List (Option A)) (o : Option A) → gather f xs ≡ None → IsIn o xs → o ≡ None
gather_none f xs None e h = refl
gather_none f xs (Some x) e h = let g = some-gather f xs x h in never g.0 (sym e ∙ g.1)

-- ---- several parts

pub part_at : (S : List Db) (Rs : List (List Db)) (R : List Db) → AreParts Rs S → IsIn R Rs → IsPart R S
part_at S [] R parts h = absurd h
part_at S (Q ∷ Rs) R parts (inl p) = subst (λ (X : List Db). IsPart X S) p parts.0
part_at S (Q ∷ Rs) R parts (inr h) = part_at S Rs R parts.1 h

pub in_end : (Rs : List (List Db)) (R : List Db) (m : Db) → IsIn R Rs → IsIn m R → IsIn m (end_to_end Rs)
in_end [] R m h k = absurd h
in_end (Q ∷ Rs) R m (inl p) k = in_front Q (end_to_end Rs) m (subst (λ (X : List Db). IsIn m X) (sym p) k)
in_end (Q ∷ Rs) R m (inr h) k = in_back Q (end_to_end Rs) m (in_end Rs R m h k)

pub from_end : (Rs : List (List Db)) (m : Db) → IsIn m (end_to_end Rs) → (R : List Db) × (IsIn R Rs × IsIn m R)
from_end [] m h = absurd h
from_end (Q ∷ Rs) m h =
    elim (in_either Q (end_to_end Rs) m h) [
      | inl k ↦ (Q, (inl refl, k))
      | inr k ↦ let f = from_end Rs m k in (f.0, (inr f.1.0, f.1.1))
    ]

pub some_end : (Q : List Db) (rest : List Db) → IsNotEmpty Q → IsNotEmpty (Q ++ rest)
some_end [] rest e = absurd e
some_end (m ∷ ms) rest e = tt

pub end_part : (S : List Db) (Rs : List (List Db)) → IsNotEmpty Rs → AreParts Rs S → IsPart (end_to_end Rs) S
end_part S [] some parts = absurd some
end_part S (Q ∷ Rs) some parts = (
  some_end Q (end_to_end Rs) parts.0.0,
  λ m h.
      let f = from_end (Q ∷ Rs) m h in
      (part_at S (Q ∷ Rs) f.0 parts f.1.0).1 m f.1.1,
)

-- what is said of each member by each join is said of all members by all joins
columns : {A : Type 0} {f : A → A → A} → IsJoin f → (col : Db → Option A) (Rs : List (List Db))
    → ((R : List Db) → IsIn R Rs → col (join R) ≡ gather f (map col R)) → gather f (map col (map join Rs)) ≡ gather f (map col (end_to_end Rs))
columns j col [] each = refl
columns {f = f} j col (R ∷ Rs) each =
    (λ i. join_options f (each R (inl refl) i) (columns j col Rs (λ Q h. each Q (inr h)) i))
    ∙ sym (ap (gather f) (map_append col R (end_to_end Rs)) ∙ gather-append j (map col R) (map col (end_to_end Rs)))

module _ (S : List Db) (a : Agreed S) (Rs : List (List Db)) (some : IsNotEmpty Rs) (parts : AreParts Rs S) where
  abbrev all : List Db
  all = end_to_end Rs

  abbrev joins : List Db
  joins = map join Rs

  all_part : IsPart all S
  all_part = end_part S Rs some parts

  one_part : (R : List Db) → IsIn R Rs → IsPart R S
  one_part R h = part_at S Rs R parts h

  one_root : (R : List Db) → IsIn R Rs → (join R).root ≡ root_of S
  one_root R h = join_root R ∙ part_root R S a.compatible.root (one_part R h)

  joins_some : IsNotEmpty joins
  joins_some = has Rs some
    where
      has : (Qs : List (List Db)) → IsNotEmpty Qs → IsNotEmpty (map join Qs)
      has [] e = absurd e
      has (Q ∷ Qs) e = tt

  joins_root : root_of joins ≡ root_of S
  joins_root = first Rs some one_root
    where
      first : (Qs : List (List Db)) → IsNotEmpty Qs → ((R : List Db) → IsIn R Qs → (join R).root ≡ root_of S) → root_of (map join Qs) ≡ root_of S
      first [] e each = absurd e
      first (Q ∷ Qs) e each = each Q (inl refl)

  all_root : root_of all ≡ root_of S
  all_root = part_root all S a.compatible.root all_part

  one_allowed : (R : List Db) → IsIn R Rs → Allowed R
  one_allowed R h = part_allowed S R a (one_part R h)

  one_sound : (R : List Db) → IsIn R Rs → (m : Db) → IsIn m R → Sound m
  one_sound R h = part_sound a.compatible R (one_part R h)

  -- ---- the joins are compatible

  one_kinds : (Q R : List Db) (u : NodeId) → IsIn Q Rs → IsIn R Rs → contains_key (join Q).entries u ≡ true → contains_key (join R).groups u ≡ false
  one_kinds Q R u h k e =
      let p = entry_kept Q (one_allowed Q h) (one_sound Q h) u e in
      is_false (contains_key (join R).groups u) (λ g.
      let q = group_kept R (one_allowed R k) (one_sound R k) u g in
      apart (contains_key q.1.0.groups u) q.1.1.1
      (a.compatible.kinds p.1.0 q.1.0 u ((one_part Q h).1 p.1.0 p.1.1.0) ((one_part R k).1 q.1.0 q.1.1.0) p.1.1.1))

  -- a bound on the members' stamps bounds the join's
  joined_stamp : (R : List Db) (u : NodeId) (d : ℕ) → ((n : Db) → IsIn n R → stamp_in n u ≤ d) → stamp_in (join R) u ≤ d
  unfolding stamp_in
  joined_stamp R u d below =
      let e = newest_cond (kept R u) (gather (unite stats_join) (map (λ (m : Db). get m.entries u) R))
      (newest_below (map (λ (m : Db). get m.entries u) R) d (λ w h.
      let f = from_map (λ (m : Db). get m.entries u) R (Some w) h in
      let b = below f.0 f.1.0 in
      let is = ap newest f.1.1 in
      omega (arith, b, is))) in
      let g = state_cond (kept R u) (gather state_join (map (λ (m : Db). get m.groups u) R))
      (state_below (map (λ (m : Db). get m.groups u) R) d (λ s h.
      let f = from_map (λ (m : Db). get m.groups u) R (Some s) h in
      let b = below f.0 f.1.0 in
      let is = ap state_time f.1.1 in
      omega (arith, b, is))) in
      let e' = ap newest (join_entries R u) in
      let g' = ap state_time (join_groups R u) in
      omega (arith, e, g, e', g')
    where
      newest_cond : (b : Bool) (o : Option Versions) → newest o ≤ d → newest (cond b o None) ≤ d
      newest_cond true o h = h
      newest_cond false o h = omega arith

      state_cond : (b : Bool) (o : Option GroupState) → state_time o ≤ d → state_time (cond b o None) ≤ d
      state_cond true o h = h
      state_cond false o h = omega arith

  max_one : (x y : ℕ) → (max x y ≡ x) ⊎ (max x y ≡ y)
  max_one x y = grind arith

  -- the tombstone of a join is a member's
  tomb_from : (R : List Db) (u : NodeId) (d : ℕ) → IsIn R Rs → get (join R).tombs u ≡ Some d → (m : Db) × (IsIn m R × (get m.tombs u ≡ Some d))
  tomb_from R u d h e =
      from_map (λ (m : Db). get m.tombs u) R (Some d)
      (gather-selects max max_one (map (λ (m : Db). get m.tombs u) R) d (sym (keeps_tombs S R a (one_part R h) u) ∙ e))

  one_tombs : (Q R : List Db) (u : NodeId) (d : ℕ) → IsIn Q Rs → IsIn R Rs → get (join Q).tombs u ≡ Some d → stamp_in (join R) u ≤ d
  one_tombs Q R u d h k e =
      let t = tomb_from Q u d h e in
      joined_stamp R u d (λ n g. a.compatible.tombs t.0 n u d ((one_part Q h).1 t.0 t.1.0) ((one_part R k).1 n g) t.1.1)

  pub joins_compatible : Compatible joins
  joins_compatible = record {
    sound = λ m h. let f = from_map join Rs m h in subst Sound f.1.1 (part_join_sound S f.0 a (one_part f.0 f.1.0));
    root = λ m h. let f = from_map join Rs m h in ap (λ (x : Db). x.root) (sym f.1.1) ∙ one_root f.0 f.1.0 ∙ sym joins_root;
    kinds = λ m n u h k e.
        let f = from_map join Rs m h in
        let g = from_map join Rs n k in
        ap (λ (x : Db). contains_key x.groups u) (sym g.1.1) ∙ one_kinds f.0 g.0 u f.1.0 g.1.0 (ap (λ (x : Db). contains_key x.entries u) f.1.1 ∙ e);
    tombs = λ m n u d h k e.
        let f = from_map join Rs m h in
        let g = from_map join Rs n k in
        subst (λ (x : Db). stamp_in x u ≤ d) g.1.1 (one_tombs f.0 g.0 u d f.1.0 g.1.0 (ap (λ (x : Db). get x.tombs u) f.1.1 ∙ e));
  }

  joins_self : IsPart joins joins
  joins_self = (joins_some, λ m h. h)

  -- ---- own in the joins is own in all

  no_tombs_in : (u : NodeId) → ((m : Db) → IsIn m joins → get m.tombs u ≡ None) → (m : Db) → IsIn m all → get m.tombs u ≡ None
  no_tombs_in u none m h =
      let f = from_end Rs m h in
      gather_none max (map (λ (n : Db). get n.tombs u) f.0) (get m.tombs u)
      (sym (keeps_tombs S f.0 a (one_part f.0 f.1.0) u) ∙ none (join f.0) (in_map join Rs f.0 f.1.0)) (in_map (λ (n : Db). get n.tombs u) f.0 m f.1.1)

  from_joins : (u : NodeId) → own joins u ≡ true → own all u ≡ true
  from_joins u e =
      let alive = alive_from_own joins_compatible joins joins_self u e in
      let f = any_found (λ (m : Db). holds m u) joins alive.0 in
      let g = from_map join Rs f.0 f.1.0 in
      let here : own g.0 u ≡ true = sym (holds_own S g.0 a (one_part g.0 g.1.0) u) ∙ ap (λ (x : Db). holds x u) g.1.1 ∙ f.1.1 in
      let k = any_found (λ (m : Db). holds m u) g.0 (alive_from_own a.compatible g.0 (one_part g.0 g.1.0) u here).0 in
      own_from_alive a.compatible all all_part u (held_by all k.0 u (in_end Rs g.0 k.0 g.1.0 k.1.0) k.1.1) (no_tombs_in u alive.1)

  one_own : (u : NodeId) (R : List Db) → IsIn R Rs → ((m : Db) → IsIn m all → get m.tombs u ≡ None) → is_held R u ≡ true → own R u ≡ true
  one_own u R h none e = own_from_alive a.compatible R (one_part R h) u e (λ m k. none m (in_end Rs R m h k))

  into_joins : (u : NodeId) → own all u ≡ true → own joins u ≡ true
  into_joins u e =
      let alive = alive_from_own a.compatible all all_part u e in
      let f = any_found (λ (m : Db). holds m u) all alive.0 in
      let g = from_end Rs f.0 f.1.0 in
      let here = one_own u g.0 g.1.0 alive.1 (held_by g.0 f.0 u g.1.1 f.1.1) in
      own_from_alive joins_compatible joins joins_self u
      (held_by joins (join g.0) u (in_map join Rs g.0 g.1.0) (holds_own S g.0 a (one_part g.0 g.1.0) u ∙ here))
      (λ m h.
      let k = from_map join Rs m h in
      ap (λ (x : Db). get x.tombs u) (sym k.1.1) ∙ keeps_tombs S k.0 a (one_part k.0 k.1.0) u
      ∙ all_none k.0 u (λ n l. alive.1 n (in_end Rs k.0 n k.1.0 l)))

  pub joins_own : (u : NodeId) → own joins u ≡ own all u
  joins_own u = both_ways (own joins u) (own all u) (from_joins u) (into_joins u)

  -- ---- columns of own nodes

  module _ {A : Type 0} {f : A → A → A} (j : IsJoin f) (field : Db → FinMap id_cmp A)
      (at : (R : List Db) (u : NodeId) → get (field (join R)) u ≡ cond (kept R u) (gather f (map (λ (m : Db). get (field m) u) R)) None)
      (within : (m : Db) (u : NodeId) → Sound m → contains_key (field m) u ≡ true → holds m u ≡ true) where
    one_column : (u : NodeId) (R : List Db) → IsIn R Rs → own all u ≡ true → get (field (join R)) u ≡ gather f (map (λ (m : Db). get (field m) u) R)
    one_column u R h e =
        elim (decide (kept R u)) [
          | inl k ↦ at R u ∙ ap (λ b. cond b (gather f (map (λ (m : Db). get (field m) u) R)) None) k
          | inr k ↦
              at R u ∙ ap (λ b. cond b (gather f (map (λ (m : Db). get (field m) u) R)) None) k
              ∙ sym (none-gather f (map (λ (m : Db). get (field m) u) R) (λ o g.
              let m = from_map (λ (n : Db). get (field n) u) R o g in
              sym m.1.1 ∙ none_of (get (field m.0) u) (is_false (contains_key (field m.0) u) (λ t.
              let here = one_own u R h (alive_from_own a.compatible all all_part u e).1 (held_by R m.0 u m.1.0 (within m.0 u (one_sound R h m.0 m.1.0) t)) in
              apart (kept R u) (part_kept S R a (one_part R h) u ∙ here) k))))
        ]

    pub column : (u : NodeId) → own all u ≡ true → gather f (map (λ (m : Db). get (field m) u) joins) ≡ gather f (map (λ (m : Db). get (field m) u) all)
    column u e = columns j (λ m. get (field m) u) Rs (λ R h. one_column u R h e)

  entries_within : (m : Db) (u : NodeId) → Sound m → contains_key m.entries u ≡ true → holds m u ≡ true
  entries_within m u s e = or_left (contains_key m.entries u) (contains_key m.groups u) e

  groups_within : (m : Db) (u : NodeId) → Sound m → contains_key m.groups u ≡ true → holds m u ≡ true
  groups_within m u s e = or_right (contains_key m.entries u) (contains_key m.groups u) e

  places_within : (m : Db) (u : NodeId) → Sound m → contains_key m.places u ≡ true → holds m u ≡ true
  places_within m u s e = found (get m.places u) refl e
    where
      found : (o : Option Place) → get m.places u ≡ o → contains_key m.places u ≡ true → holds m u ≡ true
      found None q t = apart (contains_key m.places u) t (ap is_some q)
      found (Some p) q t = (placed_held m u p s q).1

  joins_latest : (u : NodeId) → own all u ≡ true → latest joins u ≡ latest all u
  joins_latest u e = column places_joins (λ m. m.places) join_places places_within u e

  -- ---- the joins agree

  pub joins_filled : KeepsParents joins
  joins_filled u p m e l h =
      let o = from_joins u e in
      let k = from_map join Rs m h in
      ap (λ (x : Db). get x.tombs p.parent) (sym k.1.1) ∙ keeps_tombs S k.0 a (one_part k.0 k.1.0) p.parent
      ∙ all_none k.0 p.parent (λ n g. a.filled all all_part u p n o (sym (joins_latest u o) ∙ l) (in_end Rs k.0 n k.1.0 g))

  joins_above : (u : NodeId) → own joins u ≡ true → (above joins u ≡ above all u) × (own joins (above joins u) ≡ true)
  joins_above u e =
      let o = from_joins u e in
      let same : above joins u ≡ above all u = ap (parent_or u) (joins_latest u o) in
      (same, ap (own joins) same ∙ into_joins (above all u) (next_own a.compatible all all_part (a.filled all all_part) u o))

  pub joins_acyclic : IsAcyclic joins
  joins_acyclic u e =
      let r = a.acyclic all all_part u (from_joins u e) in
      (r.0, steps_same (above joins) (above all) (own joins) joins_above r.0 u e ∙ r.1 ∙ all_root ∙ sym joins_root)

  -- ---- the join of the joins

  joins_kept : (u : NodeId) → kept joins u ≡ kept all u
  joins_kept u = kept-own joins_compatible joins joins_self joins_filled u ∙ joins_own u ∙ sym (part_kept S all a all_part u)

  cond_same : {A : Type 0} (b c : Bool) (x y : Option A) → b ≡ c → (c ≡ true → x ≡ y) → cond b x None ≡ cond c y None
  cond_same b true x y e same = ap (λ t. cond t x None) e ∙ same refl
  cond_same b false x y e same = ap (λ t. cond t x None) e

  own_of_kept : (u : NodeId) → kept all u ≡ true → own all u ≡ true
  own_of_kept u e = sym (part_kept S all a all_part u) ∙ e

  same_entries : (join joins).entries ≡ (join all).entries
  same_entries = same_map id_order.total id_order.same _ _ (λ u.
      join_entries joins u
      ∙ cond_same (kept joins u) (kept all u) _ _ (joins_kept u) (λ k. column versions_joins (λ m. m.entries) join_entries entries_within u (own_of_kept u k))
      ∙ sym (join_entries all u))

  same_groups : (join joins).groups ≡ (join all).groups
  same_groups = same_map id_order.total id_order.same _ _ (λ u.
      join_groups joins u
      ∙ cond_same (kept joins u) (kept all u) _ _ (joins_kept u) (λ k. column state_joins (λ m. m.groups) join_groups groups_within u (own_of_kept u k))
      ∙ sym (join_groups all u))

  same_places : (join joins).places ≡ (join all).places
  same_places = same_map id_order.total id_order.same _ _ (λ u.
      join_places joins u
      ∙ cond_same (kept joins u) (kept all u) _ _ (joins_kept u) (λ k. joins_latest u (own_of_kept u k))
      ∙ sym (join_places all u))

  same_tombs : (join joins).tombs ≡ (join all).tombs
  same_tombs = same_map id_order.total id_order.same _ _ (λ u.
      join_tombs joins u
      ∙ (λ i. cond (not (joins_kept u i)) (columns max_join (λ (m : Db). get m.tombs u) Rs (λ R h. keeps_tombs S R a (one_part R h) u) i) None)
      ∙ sym (join_tombs all u))

  some_meta : (R : List Db) → IsNotEmpty R → Some (join R).meta ≡ gather meta_join (map (λ (m : Db). Some m.meta) R)
  some_meta R some' =
      ap Some (join_meta R) ∙ stands (gather meta_join (map (λ (m : Db). Some m.meta) R)) (met R some')
    where
      stands : (o : Option SharedMeta) → ((x : SharedMeta) × (o ≡ Some x)) → Some (unwrap_or o no_meta) ≡ o
      stands None f = never f.0 f.1
      stands (Some x) f = refl

      met : (Q : List Db) → IsNotEmpty Q → (x : SharedMeta) × (gather meta_join (map (λ (m : Db). Some m.meta) Q) ≡ Some x)
      met [] e = absurd e
      met (m ∷ ms) e = some-gather meta_join (map (λ (n : Db). Some n.meta) (m ∷ ms)) m.meta (inl refl)

  same_meta : (join joins).meta ≡ (join all).meta
  same_meta =
      join_meta joins
      ∙ ap (λ o. unwrap_or o no_meta) (columns meta_joins (λ (m : Db). Some m.meta) Rs (λ R h. some_meta R (one_part R h).0))
      ∙ sym (join_meta all)

  same_root : (join joins).root ≡ (join all).root
  same_root = join_root joins ∙ joins_root ∙ sym all_root ∙ sym (join_root all)

  pub join_of_joins : join joins ≡ join all
  join_of_joins = λ i. record {
    root = same_root i;
    entries = same_entries i;
    groups = same_groups i;
    places = same_places i;
    tombs = same_tombs i;
    meta = same_meta i;
  }

  pub joins_allowed : Allowed joins
  joins_allowed = record { some = joins_some; root = joins_compatible.root; kinds = joins_compatible.kinds; acyclic = joins_acyclic }

-- ---- any part of the joins is the joins of some parts

origins : (S : List Db) (Rs : List (List Db)) → AreParts Rs S → (P : List Db) → IsWithin P (map join Rs)
    → (Qs : List (List Db)) × ((map join Qs ≡ P) × AreParts Qs S)
origins S Rs parts [] f = ([], (refl, tt))
origins S Rs parts (m ∷ ms) f =
    let g = from_map join Rs m (f m (inl refl)) in
    let rest = origins S Rs parts ms (λ n h. f n (inr h)) in
    (g.0 ∷ rest.0, ((λ i. g.1.1 i ∷ rest.1.0 i), (part_at S Rs g.0 parts g.1.0, rest.1.1)))

lists_some : (Qs : List (List Db)) (P : List Db) → map join Qs ≡ P → IsNotEmpty P → IsNotEmpty Qs
lists_some [] P e some = absurd (subst IsNotEmpty (sym e) some)
lists_some (Q ∷ Qs) P e some = tt

-- the joins of parts of an agreed set are agreed
pub joins_agreed : (S : List Db) (Rs : List (List Db)) → Agreed S → AreParts Rs S → Agreed (map join Rs)
joins_agreed S Rs a parts = record {
  compatible = compatible_of Rs parts;
  filled = λ P part.
      let o = origins S Rs parts P part.1 in
      subst KeepsParents o.1.0 (joins_filled S a o.0 (lists_some o.0 P o.1.0 part.0) o.1.1);
  acyclic = λ P part.
      let o = origins S Rs parts P part.1 in
      subst IsAcyclic o.1.0 (joins_acyclic S a o.0 (lists_some o.0 P o.1.0 part.0) o.1.1);
}
  where
    compatible_of : (Qs : List (List Db)) → AreParts Qs S → Compatible (map join Qs)
    compatible_of [] f = record { sound = λ m h. absurd h; root = λ m h. absurd h; kinds = λ m n u h. absurd h; tombs = λ m n u d h. absurd h }
    compatible_of (Q ∷ Qs) f = joins_compatible S a (Q ∷ Qs) tt f
