-- A list with those of another that are wanted.
use Rattle.std.proofs.Common.{◌≡◌, Bool, true, false, cond, List, [], ◌∷◌, ◌++◌, append_assoc, refl, sym, ap, ◌∙◌}
use Rattle.std.specs.List.{filter}

-- one by one
abbrev pub append_each : {A : Type 0} → (A → Bool) → List A → List A → List A
append_each wanted so_far [] = so_far
append_each wanted so_far (x ∷ xs) = append_each wanted (so_far ++ cond (wanted x) (x ∷ []) []) xs

module _ {A : Type 0} (wanted : A → Bool) where
  one_more : (so_far : List A) (b : Bool) (x : A) (xs : List A) → (so_far ++ cond b (x ∷ []) []) ++ xs ≡ so_far ++ cond b (x ∷ xs) xs
  one_more so_far true x xs = append_assoc so_far (x ∷ []) xs
  one_more so_far false x xs = append_assoc so_far [] xs

  pub append_filter : (so_far xs : List A) → append_each wanted so_far xs ≡ so_far ++ filter wanted xs
  append_filter so_far [] = sym (ap (λ (ys : List A). ys) (append_none so_far))
    where
      append_none : (ys : List A) → ys ++ [] ≡ ys
      append_none [] = refl
      append_none (y ∷ ys) = ap (λ (zs : List A). y ∷ zs) (append_none ys)
  append_filter so_far (x ∷ xs) =
      append_filter (so_far ++ cond (wanted x) (x ∷ []) []) xs ∙ one_more so_far (wanted x) x (filter wanted xs)
