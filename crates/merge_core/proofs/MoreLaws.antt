-- What stays of every version, and that a database alone is agreed.
use Rattle.std.proofs.Common.{◌≡◌, ◌≤◌, ℕ, true, false, cond, inl, inr, List, [], ◌∷◌, Option, Some, None, map, refl, sym, ap, subst, ◌∙◌, arith}
use Rattle.std.specs.FinMap.{get, contains_key}
use Rattle.vault_model.specs.declared.contents.Stats.{Stats}
use Rattle.vault_model.specs.Db.{NodeId, Mark, Versions, Place, place_cmp, Db, holds, newest, state_time, stamp_in, parent_or, parent_in, Sound}
use Rattle.vault_model.specs.Join.{stats_join, root_of, latest, above, kept, join, IsIn, IsNotEmpty, IsPart, KeepsParents, IsAcyclic, Compatible, Agreed}
use Rattle.vault_model.specs.Unite.{greater, gather, unite}
use Rattle.merge_core.proofs.Facts.{join_entries, latest_found, held_by, alive_from_own, own_from_alive}
use Rattle.merge_core.proofs.Joins.{places_joins}
use Rattle.merge_core.proofs.Paths.{steps_same}
use Rattle.merge_core.proofs.Semilattice.{some-gather, gather-same}
use Rattle.vault_model.proofs.Tests.{or_left, or_right, is_false, none_of, some_is, any_found, in_map, from_map, or_false}
use Rattle.merge_core.proofs.Versions.{never, version_stays}
use Rattle.merge_core.specs.JoinLaws.{IsThere}
use Rattle.merge_core.proofs.Regroup.{part_kept}

-- each version of a kept entry is in the join
pub kept_version : (S : List Db) (m : Db) (u : NodeId) (v : Versions) (k : Mark) (s : Stats) → IsIn m S → kept S u ≡ true → get m.entries u ≡ Some v → get v k ≡ Some s
    → IsThere (join S) u k s
kept_version S m u v k s h is_kept e g =
    let member : IsIn (Some v) (map (λ (n : Db). get n.entries u) S) =
    subst (λ (o : Option Versions). IsIn o (map (λ (n : Db). get n.entries u) S)) e (in_map (λ (n : Db). get n.entries u) S m h) in
    let all = some-gather (unite stats_join) (map (λ (n : Db). get n.entries u) S) v member in
    let there = version_stays (map (λ (n : Db). get n.entries u) S) all.0 v k s all.1 member g in
    record {
      versions = all.0;
      stats = there.0;
      entry = join_entries S u ∙ ap (λ b. cond b (gather (unite stats_join) (map (λ (n : Db). get n.entries u) S)) None) is_kept ∙ all.1;
      version = there.1.0;
      accessed = there.1.1.0;
      usage = there.1.1.1;
    }

-- each version of an entry that no member has deleted is in the join
pub version_there : (S : List Db) (m : Db) (u : NodeId) (v : Versions) (k : Mark) (s : Stats) → Agreed S → IsIn m S → get m.entries u ≡ Some v → get v k ≡ Some s
    → ((n : Db) → IsIn n S → get n.tombs u ≡ None) → IsThere (join S) u k s
version_there S m u v k s a h e g none =
    let part : IsPart S S = (not_empty S m h, λ n i. i) in
    let holds_u : holds m u ≡ true = or_left (contains_key m.entries u) (contains_key m.groups u) (some_is (get m.entries u) v e) in
    let is_own = own_from_alive a.compatible S part u (held_by S m u h holds_u) none in
    let is_kept : kept S u ≡ true = part_kept S S a part u ∙ is_own in
    kept_version S m u v k s h is_kept e g
  where
    not_empty : (R : List Db) (x : Db) → IsIn x R → IsNotEmpty R
    not_empty [] x i = absurd i
    not_empty (y ∷ ys) x i = tt

-- ---- a sound database alone

module _ (m : Db) (s : Sound m) where
  it : (R : List Db) → IsPart R (m ∷ []) → (n : Db) → IsIn n R → m ≡ n
  it R part n h = elim (part.1 n h) [ inl p ↦ p | inr x ↦ absurd x ]

  no_stamp : (u : NodeId) (d : ℕ) → get m.tombs u ≡ Some d → stamp_in m u ≤ d
  unfolding stamp_in
  no_stamp u d e =
      let off : holds m u ≡ false = is_false (holds m u) (λ h. never d (sym (s.alive u h) ∙ e)) in
      let parts = or_false (contains_key m.entries u) (contains_key m.groups u) off in
      let a = ap newest (none_of (get m.entries u) parts.0) in
      let b = ap state_time (none_of (get m.groups u) parts.1) in
      omega (arith, a, b)

  alone_compatible : Compatible (m ∷ [])
  alone_compatible = record {
    sound = λ n h. elim h [ inl p ↦ subst Sound p s | inr x ↦ absurd x ];
    root = λ n h. elim h [ inl p ↦ ap (λ (x : Db). x.root) (sym p) | inr x ↦ absurd x ];
    kinds = λ n k u h i e. elim h [
      | inl p ↦ elim i [
        | inl q ↦ ap (λ (x : Db). contains_key x.groups u) (sym q) ∙ s.kinds u (ap (λ (x : Db). contains_key x.entries u) p ∙ e)
        | inr x ↦ absurd x
      ]
      | inr x ↦ absurd x
    ];
    tombs = λ n k u d h i e. elim h [
      | inl p ↦ elim i [
        | inl q ↦ subst (λ (x : Db). stamp_in x u ≤ d) q (no_stamp u d (ap (λ (x : Db). get x.tombs u) p ∙ e))
        | inr x ↦ absurd x
      ]
      | inr x ↦ absurd x
    ];
  }

  module _ (R : List Db) (part : IsPart R (m ∷ [])) where
    alone_filled : KeepsParents R
    alone_filled u p n e l h =
        let f = latest_found R u p l in
        let place : get m.places u ≡ Some p = ap (λ (x : Db). get x.places u) (it R part f.0 f.1.0) ∙ f.1.1 in
        ap (λ (x : Db). get x.tombs p.parent) (sym (it R part n h))
        ∙ s.alive p.parent (or_right (contains_key m.entries p.parent) (contains_key m.groups p.parent) (s.parents u p place))

    alone_root : root_of R ≡ m.root
    alone_root = first R part (it R part)
      where
        first : (Q : List Db) → IsPart Q (m ∷ []) → ((n : Db) → IsIn n Q → m ≡ n) → root_of Q ≡ m.root
        first [] p f = absurd p.0
        first (n ∷ ns) p f = ap (λ (x : Db). x.root) (sym (f n (inl refl)))

    alone_latest : (u : NodeId) → latest R u ≡ get m.places u
    alone_latest u =
        gather-same places_joins (map (λ (n : Db). get n.places u) R) (get m.places u ∷ [])
        (λ o h. let f = from_map (λ (n : Db). get n.places u) R o h in inl (ap (λ (x : Db). get x.places u) (it R part f.0 f.1.0) ∙ f.1.1))
        (λ o h. elim h [
          | inl p ↦ subst (λ (x : Option Place). IsIn x (map (λ (n : Db). get n.places u) R)) p (some_member R part)
          | inr x ↦ absurd x
        ])
        ∙ one (get m.places u)
      where
        one : (o : Option Place) → gather (greater place_cmp) (o ∷ []) ≡ o
        one None = refl
        one (Some p) = refl

        some_member : (Q : List Db) → IsPart Q (m ∷ []) → IsIn (get m.places u) (map (λ (n : Db). get n.places u) Q)
        some_member [] p = absurd p.0
        some_member (n ∷ ns) p = elim (p.1 n (inl refl)) [ inl q ↦ inl (ap (λ (x : Db). get x.places u) (sym q)) | inr x ↦ absurd x ]

    held_parent : (u : NodeId) → holds m u ≡ true → (parent_in m u ≡ above R u) × (holds m (parent_in m u) ≡ true)
    held_parent u e = (ap (parent_or u) (sym (alone_latest u)), at_parent (get m.places u) refl)
      where
        at_parent : (o : Option Place) → get m.places u ≡ o → holds m (parent_or u o) ≡ true
        at_parent None q = e
        at_parent (Some p) q = or_right (contains_key m.entries p.parent) (contains_key m.groups p.parent) (s.parents u p q)

    alone_acyclic : IsAcyclic R
    alone_acyclic u e =
        let h = any_found (λ (n : Db). holds n u) R (alive_from_own alone_compatible R part u e).0 in
        let here : holds m u ≡ true = ap (λ (x : Db). holds x u) (it R part h.0 h.1.0) ∙ h.1.1 in
        let r = s.rooted u here in
        (r.0, sym (steps_same (parent_in m) (above R) (holds m) held_parent r.0 u here) ∙ r.1 ∙ sym alone_root)

  pub alone_agreed : Agreed (m ∷ [])
  alone_agreed = record { compatible = alone_compatible; filled = alone_filled; acyclic = alone_acyclic }
