-- Joins that ask for no order: they may be taken in any grouping, in any order and as often as one likes.
use Rattle.std.proofs.Common.{◌≡◌, ◌⊎◌, inl, inr, List, [], ◌∷◌, ◌++◌, Option, Some, None, max, refl, sym, ap, ◌∙◌, arith}
use Rattle.std.specs.declared.cmp.Ordering.{Ordering}
use Rattle.std.specs.declared.cmp.Ordering.TheVariants.{Less, Equal, Greater}
use Rattle.std.specs.Cmp.{IsTotalOrder, tied_itself}
use Rattle.std.specs.FinMap.{IsAntisymmetric}
use Rattle.std.specs.Ordering.{ordering_reverse}
use Rattle.vault_model.specs.Join.{IsIn, IsWithin}
use Rattle.vault_model.specs.Unite.{by_order, greater, by_key, join_options, gather}

-- A join of two values for which grouping, order and repeats do not matter.
pub record IsJoin {A : Type 0} (f : A → A → A) : Type 0 where
  pub assoc : (x y z : A) → f (f x y) z ≡ f x (f y z)
  pub comm : (x y : A) → f x y ≡ f y x
  pub idem : (x : A) → f x x ≡ x

module _ {A : Type 0} {f : A → A → A} (j : IsJoin f) where
  merged_assoc : (x y z : Option A) → join_options f (join_options f x y) z ≡ join_options f x (join_options f y z)
  merged_assoc None y z = refl
  merged_assoc (Some x) None z = refl
  merged_assoc (Some x) (Some y) None = refl
  merged_assoc (Some x) (Some y) (Some z) = ap Some (j.assoc x y z)

  merged_comm : (x y : Option A) → join_options f x y ≡ join_options f y x
  merged_comm None None = refl
  merged_comm None (Some y) = refl
  merged_comm (Some x) None = refl
  merged_comm (Some x) (Some y) = ap Some (j.comm x y)

  merged_idem : (x : Option A) → join_options f x x ≡ x
  merged_idem None = refl
  merged_idem (Some x) = ap Some (j.idem x)

  pub merged_join : IsJoin (join_options f)
  merged_join = record { assoc = merged_assoc; comm = merged_comm; idem = merged_idem }

  pub merged_none : (x : Option A) → join_options f x None ≡ x
  merged_none None = refl
  merged_none (Some x) = refl

  pub gather-append : (xs ys : List (Option A)) → gather f (xs ++ ys) ≡ join_options f (gather f xs) (gather f ys)
  gather-append [] ys = refl
  gather-append (x ∷ xs) ys = ap (join_options f x) (gather-append xs ys) ∙ sym (merged_assoc x (gather f xs) (gather f ys))

  -- a member adds nothing
  pub gather-absorbs : (xs : List (Option A)) (x : Option A) → IsIn x xs → join_options f x (gather f xs) ≡ gather f xs
  gather-absorbs [] x h = absurd h
  gather-absorbs (y ∷ ys) x (inl p) =
      ap (λ w. join_options f w (gather f (y ∷ ys))) (sym p) ∙ sym (merged_assoc y y (gather f ys))
      ∙ ap (λ w. join_options f w (gather f ys)) (merged_idem y)
  gather-absorbs (y ∷ ys) x (inr h) =
      sym (merged_assoc x y (gather f ys)) ∙ ap (λ w. join_options f w (gather f ys)) (merged_comm x y)
      ∙ merged_assoc y x (gather f ys) ∙ ap (join_options f y) (gather-absorbs ys x h)

  pub gather-within : (xs ys : List (Option A)) → IsWithin xs ys → join_options f (gather f xs) (gather f ys) ≡ gather f ys
  gather-within [] ys h = refl
  gather-within (x ∷ xs) ys h =
      merged_assoc x (gather f xs) (gather f ys) ∙ ap (join_options f x) (gather-within xs ys (λ y k. h y (inr k)))
      ∙ gather-absorbs ys x (h x (inl refl))

  -- lists with the same members come to the same
  pub gather-same : (xs ys : List (Option A)) → IsWithin xs ys → IsWithin ys xs → gather f xs ≡ gather f ys
  gather-same xs ys h k = sym (gather-within ys xs k) ∙ merged_comm (gather f ys) (gather f xs) ∙ gather-within xs ys h

module _ {A : Type 0} (f : A → A → A) (one : (x y : A) → (f x y ≡ x) ⊎ (f x y ≡ y)) where
  select : (y : A) (r : Option A) (x : A) → join_options f (Some y) r ≡ Some x → (Some y ≡ Some x) ⊎ (r ≡ Some x)
  select y None x e = inl e
  select y (Some z) x e =
      elim (one y z) [ inl p ↦ inl (ap Some (sym p) ∙ e) | inr p ↦ inr (ap Some (sym p) ∙ e) ]

  -- what is gathered is a member's, where the join always takes one of the two
  pub gather-selects : (xs : List (Option A)) (x : A) → gather f xs ≡ Some x → IsIn (Some x) xs
  gather-selects [] x e = let no : None ≡ Some x → ⊥ = λ p. cc p in absurd (no e)
  gather-selects (None ∷ os) x e = inr (gather-selects os x e)
  gather-selects (Some y ∷ os) x e =
      elim (select y (gather f os) x e) [ inl p ↦ inl p | inr p ↦ inr (gather-selects os x p) ]

module _ {A : Type 0} (f : A → A → A) where
  pub none-gather : (xs : List (Option A)) → ((o : Option A) → IsIn o xs → o ≡ None) → gather f xs ≡ None
  none-gather [] h = refl
  none-gather (x ∷ xs) h = ap (λ o. join_options f o (gather f xs)) (h x (inl refl)) ∙ none-gather xs (λ o k. h o (inr k))

  merged_some : (x : A) (r : Option A) → (y : A) × (join_options f (Some x) r ≡ Some y)
  merged_some x None = (x, refl)
  merged_some x (Some z) = (f x z, refl)

  -- where a member has something, so has what is gathered
  pub some-gather : (xs : List (Option A)) (x : A) → IsIn (Some x) xs → (y : A) × (gather f xs ≡ Some y)
  some-gather [] x h = absurd h
  some-gather (o ∷ os) x (inl p) = let m = merged_some x (gather f os) in (m.0, ap (λ w. join_options f w (gather f os)) p ∙ m.1)
  some-gather (None ∷ os) x (inr h) = some-gather os x h
  some-gather (Some y ∷ os) x (inr h) = merged_some y (gather f os)

-- ---- the greater by a key

module _ {A K : Type 0} {R : K → K → Ordering} (o : IsTotalOrder R) (same : IsAntisymmetric R) (key : A → K) (f : A → A → A)
    (keeps : (x y : A) → key (f x y) ≡ key x) (assoc : (x y z : A) → f (f x y) z ≡ f x (f y z))
    (comm : (x y : A) → key x ≡ key y → f x y ≡ f y x) (idem : (x : A) → f x x ≡ x) where
  abbrev g : A → A → A
  g = by_key R key f

  less : (x y : A) → R (key x) (key y) ≡ Less → g x y ≡ y
  less x y e = ap (λ r. by_order r y (f x y) x) e

  tied : (x y : A) → R (key x) (key y) ≡ Equal → g x y ≡ f x y
  tied x y e = ap (λ r. by_order r y (f x y) x) e

  more : (x y : A) → R (key x) (key y) ≡ Greater → g x y ≡ x
  more x y e = ap (λ r. by_order r y (f x y) x) e

  turned : (x y : A) (r : Ordering) → R (key x) (key y) ≡ r → R (key y) (key x) ≡ ordering_reverse r
  turned x y r e = o.antisymm (key y) (key x) ∙ ap ordering_reverse e

  g_comm : (x y : A) (r : Ordering) → R (key x) (key y) ≡ r → g x y ≡ g y x
  g_comm x y Less e = less x y e ∙ sym (more y x (turned x y Less e))
  g_comm x y Equal e = tied x y e ∙ comm x y (same (key x) (key y) e) ∙ sym (tied y x (turned x y Equal e))
  g_comm x y Greater e = more x y e ∙ sym (less y x (turned x y Greater e))

  -- Greater in a row
  over : (x y z : A) → R (key x) (key y) ≡ Greater → R (key y) (key z) ≡ Greater → R (key x) (key z) ≡ Greater
  over x y z d e = turned z x Less (o.trans (key z) (key y) (key x) (turned y z Greater e) (turned x y Greater d))

  -- a tie moves from one side of a comparison to the other
  from_left : (x y z : A) (r : Ordering) → R (key x) (key y) ≡ Equal → R (key y) (key z) ≡ r → R (key (f x y)) (key z) ≡ r
  from_left x y z r d e = ap (λ k. R k (key z)) (keeps x y ∙ same (key x) (key y) d) ∙ e

  from_right : (x y z : A) (r : Ordering) → R (key x) (key y) ≡ r → R (key x) (key (f y z)) ≡ r
  from_right x y z r e = ap (λ k. R (key x) k) (keeps y z) ∙ e

  level : (x y z : A) (r : Ordering) → R (key x) (key y) ≡ r → R (key y) (key z) ≡ Equal → R (key x) (key z) ≡ r
  level x y z r d e = ap (λ k. R (key x) k) (sym (same (key y) (key z) e)) ∙ d

  g_assoc : (x y z : A) (r s : Ordering) → R (key x) (key y) ≡ r → R (key y) (key z) ≡ s → g (g x y) z ≡ g x (g y z)
  g_assoc x y z Less Less d e =
      ap (λ w. g w z) (less x y d) ∙ less y z e ∙ sym (ap (g x) (less y z e) ∙ less x z (o.trans (key x) (key y) (key z) d e))
  g_assoc x y z Less Equal d e =
      ap (λ w. g w z) (less x y d) ∙ tied y z e ∙ sym (ap (g x) (tied y z e) ∙ less x (f y z) (from_right x y z Less d))
  g_assoc x y z Less Greater d e =
      ap (λ w. g w z) (less x y d) ∙ more y z e ∙ sym (ap (g x) (more y z e) ∙ less x y d)
  g_assoc x y z Equal Less d e =
      ap (λ w. g w z) (tied x y d) ∙ less (f x y) z (from_left x y z Less d e)
      ∙ sym (ap (g x) (less y z e) ∙ less x z (ap (λ k. R k (key z)) (same (key x) (key y) d) ∙ e))
  g_assoc x y z Equal Equal d e =
      ap (λ w. g w z) (tied x y d) ∙ tied (f x y) z (from_left x y z Equal d e) ∙ assoc x y z
      ∙ sym (ap (g x) (tied y z e) ∙ tied x (f y z) (from_right x y z Equal d))
  g_assoc x y z Equal Greater d e =
      ap (λ w. g w z) (tied x y d) ∙ more (f x y) z (from_left x y z Greater d e)
      ∙ sym (ap (g x) (more y z e) ∙ tied x y d)
  g_assoc x y z Greater Less d e =
      ap (λ w. g w z) (more x y d) ∙ sym (ap (g x) (less y z e))
  g_assoc x y z Greater Equal d e =
      ap (λ w. g w z) (more x y d) ∙ more x z (level x y z Greater d e)
      ∙ sym (ap (g x) (tied y z e) ∙ more x (f y z) (from_right x y z Greater d))
  g_assoc x y z Greater Greater d e =
      ap (λ w. g w z) (more x y d) ∙ more x z (over x y z d e) ∙ sym (ap (g x) (more y z e) ∙ more x y d)

  pub by_key_join : IsJoin (by_key R key f)
  by_key_join = record {
    assoc = λ x y z. g_assoc x y z (R (key x) (key y)) (R (key y) (key z)) refl refl;
    comm = λ x y. g_comm x y (R (key x) (key y)) refl;
    idem = λ x. tied x x (tied_itself o (key x)) ∙ idem x;
  }

-- the greater of two in an order in which only equal values tie
module _ {A : Type 0} {R : A → A → Ordering} (o : IsTotalOrder R) (same : IsAntisymmetric R) where
  pub greater_join : IsJoin (greater R)
  greater_join = by_key_join o same (λ x. x) (λ x y. x) (λ x y. refl) (λ x y z. refl) (λ x y e. e) (λ x. refl)

  pub greater_one : (x y : A) → (greater R x y ≡ x) ⊎ (greater R x y ≡ y)
  greater_one x y = one (R x y)
    where
      one : (r : Ordering) → (by_order r y x x ≡ x) ⊎ (by_order r y x x ≡ y)
      one Less = inr refl
      one Equal = inl refl
      one Greater = inl refl

pub max_join : IsJoin max
max_join = record { assoc = λ x y z. omega arith; comm = λ x y. omega arith; idem = λ x. omega arith }
