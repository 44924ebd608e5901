-- Rows that are put into a map, the last of them first.
use Rattle.std.proofs.Common.{◌≡◌, List, [], ◌∷◌, ◌++◌, refl, ap, sym, ◌∙◌}
use Rattle.std.specs.declared.cmp.Ordering.{Ordering}
use Rattle.std.specs.FinMap.{FinMap, empty, from_entries, insert}

module _ {K X : Type 0} {R : K → K → Ordering} where
  -- a map with these rows put into it
  abbrev pub onto : List (K × X) → FinMap R X → FinMap R X
  onto [] m = m
  onto (e ∷ es) m = insert (onto es m) e.0 e.1

  pub onto_none : (es : List (K × X)) → onto es empty ≡ from_entries es
  onto_none [] = refl
  onto_none (e ∷ es) = ap (λ (m : FinMap R X). insert m e.0 e.1) (onto_none es)

  pub onto_both : (es fs : List (K × X)) (m : FinMap R X) → onto (es ++ fs) m ≡ onto es (onto fs m)
  onto_both [] fs m = refl
  onto_both (e ∷ es) fs m = ap (λ (n : FinMap R X). insert n e.0 e.1) (onto_both es fs m)

  -- the last row put
  pub onto_last : (es fs : List (K × X)) (k : K) (v : X) (m n : FinMap R X) → es ≡ fs ++ (k, v) ∷ [] → n ≡ insert m k v → onto es m ≡ onto fs n
  onto_last es fs k v m n e is = ap (λ (xs : List (K × X)). onto xs m) e ∙ onto_both fs ((k, v) ∷ []) m ∙ ap (onto fs) (sym is)
