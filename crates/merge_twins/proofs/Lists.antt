-- Lists of ids some of which were left out.
use Rattle.std.proofs.Common.{Bool, true, false, cond, List, [], ◌∷◌, map, subst}
use Rattle.std.specs.List.{filter}
use Rattle.vault_model.specs.Db.{NodeId}
use Rattle.vault_model.specs.Join.{IsIn}
use Rattle.vault_model.proofs.Tests.{from_filter, from_map, in_map}
use Rattle.merge_core.proofs.Distinct.{not_among}
use Rattle.merge_core.proofs.SoundDoc.{AreDistinct, distinct_head}

module _ {A : Type 0} (f : A → NodeId) (test : A → Bool) where
  one_more : (b : Bool) (x : A) (xs : List A) → (IsIn (f x) (map f xs) → ⊥) → AreDistinct (map f xs) → AreDistinct (map f (cond b (x ∷ xs) xs))
  one_more true x xs off d = (not_among (f x) (map f xs) off, d)
  one_more false x xs off d = d

  left_among : (xs : List A) (u : NodeId) → IsIn u (map f (filter test xs)) → IsIn u (map f xs)
  left_among xs u h =
      let g = from_map f (filter test xs) u h in
      subst (λ (v : NodeId). IsIn v (map f xs)) g.1.1 (in_map f xs g.0 (from_filter test xs g.0 g.1.0).0)

  -- those that are left stand once where all do
  pub distinct_left : (xs : List A) → AreDistinct (map f xs) → AreDistinct (map f (filter test xs))
  distinct_left [] d = tt
  distinct_left (x ∷ xs) d =
      one_more (test x) x (filter test xs) (λ h. distinct_head (f x) (map f xs) d (left_among xs (f x) h)) (distinct_left xs d.1)
