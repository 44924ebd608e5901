-- Putting an item at the spot of its order is putting it in its place.
use Rattle.std.proofs.Common.{◌≡◌, ◌<◌, ◌≤◌, ◌+◌, ℕ, suc, zero, arith, List, [], ◌∷◌, ◌++◌, None, Some, Result, Ok, Err, MatchResult, OnOk, insert, take, drop, length, map, refl, sym, ap, ◌∙◌}
use Rattle.std.proofs.lemmas.List.{drop-map, take-map}
use Rattle.std.proofs.lemmas.Option.{same_Some}
use Rattle.std.specs.declared.cmp.Ordering.{Ordering}
use Rattle.std.specs.declared.cmp.Ordering.TheVariants.{Less, Equal, Greater}
use Rattle.std.specs.List.{slice_get, slice_set}
use Rattle.vault_model.proofs.Tests.{map_append}
use Rattle.vault_model.specs.Unite.{by_order}
use Rattle.tree_core.specs.InOrder.{put_in_order}
use Rattle.tree_core.proofs.Options.{never}
use Rattle.tree_contents.specs.Spots.{changed_nth, further, spot}

module _ {A B : Type 0} (see : A → B) (f : B → B) where
  pub changed_there : (xs : List A) (at : ℕ) (old new : A) → slice_get xs at ≡ Some old → see new ≡ f (see old) → map see (slice_set xs at new) ≡ changed_nth at f (map see xs)
  changed_there [] at old new is e = never old is
  changed_there (x ∷ xs) zero old new is e = ap (λ y. y ∷ map see xs) (e ∙ ap (λ y. f (see y)) (sym (same_Some x old is)))
  changed_there (x ∷ xs) (suc at) old new is e = ap (λ ys. see x ∷ ys) (changed_there xs at old new is e)

  pub changed_nowhere : (xs : List A) (at : ℕ) → slice_get xs at ≡ None → map see xs ≡ changed_nth at f (map see xs)
  changed_nowhere [] at is = refl
  changed_nowhere (x ∷ xs) zero is = never x (sym is)
  changed_nowhere (x ∷ xs) (suc at) is = ap (λ ys. see x ∷ ys) (changed_nowhere xs at is)

pub insert_seen : {A B : Type 0} (see : A → B) (xs : List A) (at : ℕ) (x : A) → map see (insert xs at x) ≡ insert (map see xs) at (see x)
insert_seen see xs at x =
    map_append see (take at xs) (x ∷ drop at xs)
    ∙ ap (λ ys. ys ++ see x ∷ map see (drop at xs)) (sym (take-map see at xs))
    ∙ ap (λ ys. take at (map see xs) ++ see x ∷ ys) (sym (drop-map see at xs))

pub inserted_seen : {A B E : Type 0} (see : A → B) (xs ys : List A) (at : ℕ) (x : A) (y : B) (o : Result (Unit {0}) E) → see x ≡ y
    → OnOk o (ys ≡ insert xs at x) → OnOk o (map see ys ≡ insert (map see xs) at y)
inserted_seen see xs ys at x y (Ok u) same e = ap (map see) e ∙ insert_seen see xs at x ∙ ap (insert (map see xs) at) same
inserted_seen see xs ys at x y (Err u) same e = tt

module _ {A : Type 0} (order : A → Ordering) (new : A) (joined : A → A) where
  abbrev pub at_spot : List A → Result ℕ ℕ → List A
  at_spot xs (Ok n) = changed_nth n joined xs
  at_spot xs (Err n) = insert xs n new

  at_further : (x : A) (xs : List A) (p : Result ℕ ℕ) → at_spot (x ∷ xs) (further 1 p) ≡ x ∷ at_spot xs p
  at_further x xs (Ok n) = let one : 1 + n ≡ suc n = omega arith in ap (λ m. at_spot (x ∷ xs) (Ok m)) one
  at_further x xs (Err n) = let one : 1 + n ≡ suc n = omega arith in ap (λ m. at_spot (x ∷ xs) (Err m)) one

  pub put_at : (xs : List A) → at_spot xs (spot order xs) ≡ put_in_order order new joined xs
  put_at [] = refl
  put_at (x ∷ xs) =
      elim (order x) as (λ r. at_spot (x ∷ xs) (by_order r (Err 0) (Ok 0) (further 1 (spot order xs))) ≡ by_order r (new ∷ x ∷ xs) (joined x ∷ xs) (x ∷ put_in_order order new joined xs)) [
        | Less ↦ refl
        | Equal ↦ refl
        | Greater ↦ at_further x xs (spot order xs) ∙ ap (λ (ys : List A). x ∷ ys) (put_at xs)
      ]

-- a spot is within the list
further_within : (n : ℕ) (p : Result ℕ ℕ) → MatchResult p (λ at. at < n) (λ at. at ≤ n) → MatchResult (further 1 p) (λ at. at < suc n) (λ at. at ≤ suc n)
further_within n (Ok at) h = omega (arith, h)
further_within n (Err at) h = omega (arith, h)

pub spot_within : {A : Type 0} (order : A → Ordering) (xs : List A) → MatchResult (spot order xs) (λ at. at < length xs) (λ at. at ≤ length xs)
spot_within order [] = omega arith
spot_within order (x ∷ xs) =
    elim (order x) as (λ r. MatchResult (by_order r (Err 0) (Ok 0) (further 1 (spot order xs))) (λ at. at < suc (length xs)) (λ at. at ≤ suc (length xs))) [
      | Less ↦ omega arith
      | Equal ↦ omega arith
      | Greater ↦ further_within (length xs) (spot order xs) (spot_within order xs)
    ]

pub spot_end : {A : Type 0} (order : A → Ordering) (xs : List A) (at : ℕ) (r : Result ℕ ℕ) → r ≡ spot order xs → r ≡ Err at → at ≤ length xs
spot_end order xs at r is e = of (spot order xs) (sym is ∙ e) (spot_within order xs)
  where
    of : (p : Result ℕ ℕ) → p ≡ Err at → MatchResult p (λ n. n < length xs) (λ n. n ≤ length xs) → at ≤ length xs
    of (Ok n) q h = cc q
    of (Err n) q h = let same : n ≡ at = cc q in omega (arith, same, h)

pub spot_seen : {A B : Type 0} (see : A → B) (order : B → Ordering) (xs : List A) → spot order (map see xs) ≡ spot (λ x. order (see x)) xs
spot_seen see order [] = refl
spot_seen see order (x ∷ xs) = ap (λ r. by_order (order (see x)) (Err 0) (Ok 0) (further 1 r)) (spot_seen see order xs)

-- ---- what the code does at a spot

module _ {A B : Type 0} (see : A → B) (order : B → Ordering) (new : B) (joined : B → B) where
  pub joined_at_spot : {E : Type 0} (xs ys : List A) (at : ℕ) (o : Result (Unit {0}) E) → spot order (map see xs) ≡ Ok at
      → OnOk o (map see ys ≡ changed_nth at joined (map see xs)) → OnOk o (map see ys ≡ put_in_order order new joined (map see xs))
  joined_at_spot xs ys at (Ok x) is h = h ∙ ap (at_spot order new joined (map see xs)) (sym is) ∙ put_at order new joined (map see xs)
  joined_at_spot xs ys at (Err x) is h = tt

  pub joined_there : (xs ys : List A) (at : ℕ) → spot order (map see xs) ≡ Ok at → map see ys ≡ changed_nth at joined (map see xs) → map see ys ≡ put_in_order order new joined (map see xs)
  joined_there xs ys at is h = h ∙ ap (at_spot order new joined (map see xs)) (sym is) ∙ put_at order new joined (map see xs)

  pub put_at_spot : {E : Type 0} (xs ys : List A) (at : ℕ) (o : Result (Unit {0}) E) → spot order (map see xs) ≡ Err at
      → OnOk o (map see ys ≡ insert (map see xs) at new) → OnOk o (map see ys ≡ put_in_order order new joined (map see xs))
  put_at_spot xs ys at (Ok x) is h = h ∙ ap (at_spot order new joined (map see xs)) (sym is) ∙ put_at order new joined (map see xs)
  put_at_spot xs ys at (Err x) is h = tt

  pub inserted_at_spot : {E : Type 0} (xs ys : List A) (at : ℕ) (x : A) (o : Result (Unit {0}) E) → see x ≡ new → spot order (map see xs) ≡ Err at
      → OnOk o (ys ≡ insert xs at x) → OnOk o (map see ys ≡ put_in_order order new joined (map see xs))
  inserted_at_spot xs ys at x (Err u) same is e = tt
  inserted_at_spot xs ys at x (Ok u) same is e =
      ap (map see) e ∙ insert_seen see xs at x ∙ ap (insert (map see xs) at) same
      ∙ ap (at_spot order new joined (map see xs)) (sym is) ∙ put_at order new joined (map see xs)
