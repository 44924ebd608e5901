-- Sums that end at the last number of 64 bits.
use Rattle.std.proofs.Common.{◌≡◌, ℕ, suc, ◌+◌, ◌<◌, ◌≤◌, List, [], ◌∷◌, length, drop, map, min, get_or, refl, ap, sym, ◌∙◌, arith, add-one}
use Rattle.std.proofs.Math.Seq.{drop-cons}
use Rattle.std.proofs.lemmas.List.{drop_all}
use Rattle.doc_spelling.specs.Ranges.{count_all}

-- one more item is counted, and the sum with the rest is as before
pub count_more : {A B : Type 0} (f : B → ℕ) (g : A → B) (xs : List A) (i : ℕ) (x : A) (n now last : ℕ) → i < length xs → x ≡ get_or xs i x
    → now ≡ min (n + f (g x)) 18446744073709551615 → min (n + count_all f (map g (drop i xs))) 18446744073709551615 ≡ last
    → min (now + count_all f (map g (drop (i + 1) xs))) 18446744073709551615 ≡ last
count_more f g xs i x n now last below here step before =
    let front : drop i xs ≡ x ∷ drop (i + 1) xs =
    drop-cons xs i x below ∙ ap (λ y. y ∷ drop (suc i) xs) (sym here) ∙ ap (λ (m : ℕ). x ∷ drop m xs) (sym (add-one i)) in
    let sum : count_all f (map g (drop i xs)) ≡ f (g x) + count_all f (map g (drop (i + 1) xs)) = ap (λ ys. count_all f (map g ys)) front in
    omega (arith, step, before, sum)

-- no item is left
pub count_end : {A B : Type 0} (f : B → ℕ) (g : A → B) (xs : List A) (i n last : ℕ) → length xs ≤ i → n ≤ 18446744073709551615
    → min (n + count_all f (map g (drop i xs))) 18446744073709551615 ≡ last → n ≡ last
count_end f g xs i n last past most before =
    let none : count_all f (map g (drop i xs)) ≡ 0 = ap (λ ys. count_all f (map g ys)) (drop_all i xs past) in
    omega (arith, none, before, most)
