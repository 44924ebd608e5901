-- Two lists gone through side by side.
use Rattle.std.proofs.Common.{◌≡◌, ◌≢◌, ◌&&◌, ◌<◌, ◌≤◌, ◌+◌, ℕ, suc, Bool, true, false, List, [], ◌∷◌, map, length, get_or, drop, refl, ap, ◌∙◌}
use Rattle.merge_tables.proofs.ListSteps.{drop_next, drop_end}
use Rattle.merge_changes.specs.Equality.{same_all}

and_false : (b : Bool) → (b && false) ≡ false
and_false true = refl
and_false false = refl

module _ {A B : Type 0} (same : B → B → Bool) (seen : A → B) where
  pub unlike : (xs ys : List A) → length xs ≢ length ys → same_all same (map seen xs) (map seen ys) ≡ false
  unlike [] [] h = absurd (h refl)
  unlike [] (y ∷ ys) h = refl
  unlike (x ∷ xs) [] h = refl
  unlike (x ∷ xs) (y ∷ ys) h = ap (λ b. same (seen x) (seen y) && b) (unlike xs ys (λ e. h (ap suc e))) ∙ and_false (same (seen x) (seen y))

  pub next : (xs ys : List A) (i : ℕ) (x y : A) → i < length xs → x ≡ get_or xs i x → i < length ys → y ≡ get_or ys i y
      → same_all same (map seen (drop i xs)) (map seen (drop i ys)) ≡ (same (seen x) (seen y) && same_all same (map seen (drop (i + 1) xs)) (map seen (drop (i + 1) ys)))
  next xs ys i x y h e k d = λ j. same_all same (map seen (drop_next xs i x h e j)) (map seen (drop_next ys i y k d j))

  pub done : (xs ys : List A) (i : ℕ) → length xs ≤ i → length ys ≤ i → same_all same (map seen (drop i xs)) (map seen (drop i ys)) ≡ true
  done xs ys i h k = λ j. same_all same (map seen (drop_end xs i h j)) (map seen (drop_end ys i k j))
