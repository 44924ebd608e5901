-- Rising rows are the entries of the map that is made of them.
use Rattle.std.proofs.Common.{◌≡◌, ℕ, Bool, true, List, [], ◌∷◌, map, refl, sym, ap, subst, ◌∙◌}
use Rattle.std.proofs.Math.Dec.{T}
use Rattle.std.specs.Cmp.{IsTotalOrder}
use Rattle.std.specs.declared.cmp.Ordering.{Ordering}
use Rattle.std.specs.FinMap.{IsAntisymmetric, entries, entries-from_sorted, from_entries, from_sorted, get-from_entries, get-from_sorted, is_sorted, same_map, values}
use Rattle.std.specs.FinMap.Entries.{below_all}
use Rattle.std.specs.List.{list_all}
use Rattle.std.specs.Ordering.{is_lt}
use Rattle.vault_model.specs.Orders.{bytes_cmp}
use Rattle.vault_model.specs.Proper.{rises}
use Rattle.vault_model.proofs.Orders.{bytes_order}
use Rattle.vault_model.proofs.Tests.{and_both, and_true, map_map}

pub holds : (b : Bool) → b ≡ true → T b
holds b e = subst T (sym e) tt

pub entries_back : {K X : Type 0} {R : K → K → Ordering} → IsTotalOrder R → IsAntisymmetric R → (es : List (K × X)) → T (is_sorted R es)
    → entries (from_entries {R = R} es) ≡ es
entries_back {K} {X} {R} total same es up =
    ap entries (same_map total same (from_entries es) (from_sorted es) (λ q. get-from_entries total es q ∙ sym (get-from_sorted R es q up)))
    ∙ entries-from_sorted R es up

module _ {A X K : Type 0} (R : K → K → Ordering) (key : A → K) (value : A → X) where
  abbrev pub row : A → K × X
  row x = (key x, value x)

  abbrev pub are_below : K → List A → Bool
  are_below k xs = list_all (λ y. is_lt (R k (key y))) xs

  pub rows_below : (k : K) (xs : List A) → are_below k xs ≡ true → below_all R k (map row xs) ≡ true
  rows_below k [] e = refl
  rows_below k (x ∷ xs) e =
      let both = and_true (is_lt (R k (key x))) (are_below k xs) e in
      and_both (is_lt (R k (key x))) (below_all R k (map row xs)) both.0 (rows_below k xs both.1)

module _ {A X : Type 0} (key : A → List ℕ) (value : A → X) where
  rows_rise : (xs : List A) → rises key xs ≡ true → is_sorted bytes_cmp (map (row bytes_cmp key value) xs) ≡ true
  rows_rise [] e = refl
  rows_rise (x ∷ xs) e =
      let both = and_true (list_all (λ y. is_lt (bytes_cmp (key x) (key y))) xs) (rises key xs) e in
      and_both (below_all bytes_cmp (key x) (map (row bytes_cmp key value) xs)) (is_sorted bytes_cmp (map (row bytes_cmp key value) xs))
      (rows_below bytes_cmp key value (key x) xs both.0) (rows_rise xs both.1)

  -- what rises by its keys is what the map of it lists
  pub rows_back : (xs : List A) → rises key xs ≡ true → entries (from_entries {R = bytes_cmp} (map (row bytes_cmp key value) xs)) ≡ map (row bytes_cmp key value) xs
  rows_back xs e = entries_back bytes_order.total bytes_order.same (map (row bytes_cmp key value) xs) (holds _ (rows_rise xs e))

pub map_same : {A : Type 0} (xs : List A) → map (λ x. x) xs ≡ xs
map_same [] = refl
map_same (x ∷ xs) = ap (λ ys. x ∷ ys) (map_same xs)

pub values_back : {A : Type 0} (key : A → List ℕ) (xs : List A) → rises key xs ≡ true → values (from_entries {R = bytes_cmp} (map (λ x. (key x, x)) xs)) ≡ xs
values_back {A} key xs e =
    ap (map (λ (w : List ℕ × A). w.1)) (rows_back key (λ x. x) xs e) ∙ map_map (λ x. (key x, x)) (λ (w : List ℕ × A). w.1) xs ∙ map_same xs
