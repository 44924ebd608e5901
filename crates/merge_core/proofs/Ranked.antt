-- When members agree: what stands in a deleted group is deleted with it, and one rank falls from child to
-- parent in every member.
use Rattle.std.proofs.Common.{◌≡◌, ◌≢◌, ◌≤◌, ◌<◌, ℕ, zero, suc, true, inl, inr, List, Option, Some, None, refl, sym, ap, ◌∙◌, arith}
use Rattle.std.specs.FinMap.{get}
use Rattle.vault_model.specs.Db.{NodeId, Place, place_cmp, Db, holds, parent_or, Reaches}
use Rattle.vault_model.specs.Join.{is_id, root_of, latest, above, own, IsIn, IsPart, KeepsParents, IsAcyclic, Compatible, Agreed}
use Rattle.vault_model.specs.Unite.{greater}
use Rattle.vault_model.proofs.Ids.{same_id, is_same_id}
use Rattle.merge_core.proofs.Facts.{latest_found, part_sound, part_roots, alive_from_own, next_own}
use Rattle.merge_core.proofs.SoundJoin.{some_column}
use Rattle.vault_model.proofs.Tests.{apart, any_found, decide}
use Rattle.merge_core.proofs.Versions.{never}

module _ (S : List Db) (a : Compatible S)
    (closed : (m n : Db) (u : NodeId) (p : Place) (d : ℕ) → IsIn m S → IsIn n S → get m.places u ≡ Some p → get n.tombs p.parent ≡ Some d → (e : ℕ) × (get n.tombs u ≡ Some e))
    (rank : NodeId → ℕ) (falls : (m : Db) (u : NodeId) (p : Place) → IsIn m S → get m.places u ≡ Some p → rank p.parent < rank u) where
  module _ (R : List Db) (part : IsPart R S) where
    no_tomb : (u : NodeId) (p : Place) (m n : Db) (o : Option ℕ) → own R u ≡ true → IsIn m R → get m.places u ≡ Some p → IsIn n R → get n.tombs p.parent ≡ o → get n.tombs p.parent ≡ None
    no_tomb u p m n None e h q i t = t
    no_tomb u p m n (Some d) e h q i t =
        let c = closed m n u p d (part.1 m h) (part.1 n i) q t in
        never c.0 (sym ((alive_from_own a R part u e).1 n i) ∙ c.1)

    filled : KeepsParents R
    filled u p n e l i =
        let f = latest_found R u p l in
        no_tomb u p f.0 n (get n.tombs p.parent) e f.1.0 f.1.1 i refl

    -- an own node without a place is the root
    is_root : (u : NodeId) → own R u ≡ true → latest R u ≡ None → u ≡ root_of R
    is_root u e l =
        elim (decide (is_id u (root_of R))) [
          | inl r ↦ same_id u (root_of R) r
          | inr r ↦
              let m = any_found (λ (n : Db). holds n u) R (alive_from_own a R part u e).0 in
              let off : u ≢ m.0.root = λ x. apart (is_id u (root_of R)) (is_same_id u (root_of R) (x ∙ part_roots a R part m.0 m.1.0)) r in
              let placed = (part_sound a R part m.0 m.1.0).placed u off ∙ m.1.1 in
              let there = some_column (greater place_cmp) (λ n. n.places) R u m.0 m.1.0 placed in
              never there.0 (sym l ∙ there.1)
        ]

    climb : (b : ℕ) (u : NodeId) (o : Option Place) → rank u ≤ b → own R u ≡ true → latest R u ≡ o → Reaches (above R) u (root_of R)
    climb b u None low e l = (zero, is_root u e l)
    climb zero u (Some p) low e l =
        let f = latest_found R u p l in
        let less = falls f.0 u p (part.1 f.0 f.1.0) f.1.1 in
        absurd (omega (arith, less, low))
    climb (suc b) u (Some p) low e l =
        let f = latest_found R u p l in
        let less = falls f.0 u p (part.1 f.0 f.1.0) f.1.1 in
        let up : above R u ≡ p.parent = ap (parent_or u) l in
        let same : rank (above R u) ≡ rank p.parent = ap rank up in
        let low' : rank (above R u) ≤ b = omega (arith, less, low, same) in
        let r = climb b (above R u) (latest R (above R u)) low' (next_own a R part filled u e) refl in
        (suc r.0, r.1)

    acyclic : IsAcyclic R
    acyclic u e = climb (rank u) u (latest R u) (omega arith) e refl

  pub ranked_agreed : Agreed S
  ranked_agreed = record { compatible = a; filled = filled; acyclic = acyclic }
