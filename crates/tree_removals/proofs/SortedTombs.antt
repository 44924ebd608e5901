-- Tombstones that are sorted by id are the same ones put into their places one by one.
use Rattle.std.proofs.Common.{◌≡◌, ◌<◌, ◌≤◌, ◌+◌, ◌==◌, ◌&&◌, ℕ, zero, suc, Bool, true, false, cond, not, inl, inr, List, [], ◌∷◌, ◌++◌, Result, Ok, Err, IfOk, get_or, length, refl, sym, ap, ◌∙◌, arith}
use Rattle.std.proofs.lemmas.Bool.{eq-eqb, eqb-true}
use Rattle.std.proofs.lemmas.List.Sorted.{ranks_by, sorted_far, sum_by-IsPermutation}
use Rattle.std.proofs.lemmas.List.Sums.{sum_by-cons}
use Rattle.std.specs.Cmp.{IsStrictWeakOrder}
use Rattle.std.specs.List.{list_all, sum_by}
use Rattle.std.specs.List.Sorted.{IsPermutation}
use Rattle.std.specs.Ordering.{is_lt}
use Rattle.vault_model.specs.declared.nodes.Tombstone.{Tombstone}
use Rattle.vault_model.specs.Db.{id_cmp}
use Rattle.vault_model.specs.Join.{is_id}
use Rattle.vault_model.specs.Tree.{Tree}
use Rattle.vault_model.proofs.Ids.{id_itself, same_id}
use Rattle.vault_model.proofs.Orders.{id_order}
use Rattle.vault_model.proofs.Tests.{and_both, and_true, apart, decide, not_false, not_true}
use Rattle.tree_core.proofs.Counted.{one_if}
use Rattle.tree_core.specs.Changes.{tree_buried, with_tomb}
use Rattle.tree_removals.specs.Tombs.{AreSorted, ids_rise, tombs_of}
use Rattle.tree_removals.proofs.ManyTombs.{put_all, tree_put}

-- ---- how often a tombstone is among others

abbrev is_tomb : Tombstone → Tombstone → Bool
is_tomb t x = is_id t.id x.id && (t.deleted == x.deleted)

tomb_itself : (t : Tombstone) → is_tomb t t ≡ true
tomb_itself t = and_both (is_id t.id t.id) (t.deleted == t.deleted) (id_itself t.id) (eq-eqb t.deleted t.deleted refl)

same_tomb : (t x : Tombstone) → is_tomb t x ≡ true → t ≡ x
same_tomb t x e =
    let both = and_true (is_id t.id x.id) (t.deleted == x.deleted) e in
    let ids = same_id t.id x.id both.0 in
    let times = eqb-true t.deleted x.deleted both.1 in
    λ i. record { id = ids i; deleted = times i }

abbrev tomb_count : Tombstone → List Tombstone → ℕ
tomb_count t [] = 0
tomb_count t (x ∷ xs) = one_if (is_tomb t x) + tomb_count t xs

count_sum : (t : Tombstone) (xs : List Tombstone) → tomb_count t xs ≡ sum_by (λ (x : Tombstone). one_if (is_tomb t x)) xs
count_sum t [] = refl
count_sum t (x ∷ xs) = ap (λ n. one_if (is_tomb t x) + n) (count_sum t xs) ∙ sym (sum_by-cons (λ (y : Tombstone). one_if (is_tomb t y)) x xs)

count_moved : (t : Tombstone) (xs ys : List Tombstone) → IsPermutation xs ys → tomb_count t ys ≡ tomb_count t xs
count_moved t xs ys moved = count_sum t ys ∙ sum_by-IsPermutation (λ (x : Tombstone). one_if (is_tomb t x)) xs ys moved ∙ sym (count_sum t xs)

count_with : (u t : Tombstone) (xs : List Tombstone) → tomb_count u (with_tomb t xs) ≡ one_if (is_tomb u t) + tomb_count u xs
count_with u t [] = refl
count_with u t (x ∷ xs) =
    let rest = count_with u t xs in
    elim (decide (is_lt (id_cmp t.id x.id))) [
      | inl p ↦ ap (λ b. tomb_count u (cond b (t ∷ x ∷ xs) (x ∷ with_tomb t xs))) p
      | inr p ↦ ap (λ b. tomb_count u (cond b (t ∷ x ∷ xs) (x ∷ with_tomb t xs))) p ∙ omega (arith, rest)
    ]

count_put : (u : Tombstone) (xs tombs : List Tombstone) → tomb_count u (put_all xs tombs) ≡ tomb_count u (xs ++ tombs)
count_put u [] tombs = refl
count_put u (x ∷ xs) tombs = count_with u x (put_all xs tombs) ∙ ap (λ n. one_if (is_tomb u x) + n) (count_put u xs tombs)

-- what holds of all holds of each that is among them
holds_of : (test : Tombstone → Bool) (xs : List Tombstone) (t : Tombstone) → list_all test xs ≡ true → 1 ≤ tomb_count t xs → test t ≡ true
holds_of test [] t all some = absurd (omega (arith, some))
holds_of test (x ∷ xs) t all some =
    let both = and_true (test x) (list_all test xs) all in
    elim (decide (is_tomb t x)) [
      | inl p ↦ ap test (same_tomb t x p) ∙ both.0
      | inr p ↦ let here = ap one_if p in holds_of test xs t both.1 (omega (arith, some, here))
    ]

-- ---- tombstones in order

abbrev less : Tombstone → Tombstone → Bool
less x y = is_lt (id_cmp x.id y.id)

less_order : IsStrictWeakOrder less
less_order = ranks_by id_order.total (λ (t : Tombstone). t.id)

all_at : (test : Tombstone → Bool) (xs : List Tombstone) (d : Tombstone) → ((k : ℕ) → k < length xs → test (get_or xs k d) ≡ true) → list_all test xs ≡ true
all_at test [] d f = refl
all_at test (x ∷ xs) d f = and_both (test x) (list_all test xs) (f zero (omega arith)) (all_at test xs d (λ k near. f (suc k) (omega (arith, near))))

module _ (y : Tombstone) (ys : List Tombstone) (up : AreSorted (y ∷ ys)) where
  none_less : list_all (λ (z : Tombstone). not (less z y)) ys ≡ true
  none_less =
      all_at (λ (z : Tombstone). not (less z y)) ys y (λ k near.
      not_false (less (get_or ys k y) y) (sorted_far less less_order (y ∷ ys) up zero (suc k) y (omega arith) (omega (arith, near))))

  rest_sorted : AreSorted ys
  rest_sorted = λ k d low near.
      let next : suc k + 1 ≡ suc (k + 1) = omega arith in
      ap (λ n. less (get_or (y ∷ ys) n d) (get_or ys k d)) (sym next) ∙ up (suc k) d (omega arith) (omega (arith, near))

-- the first ones are the same
same_first : (x : Tombstone) (xs : List Tombstone) (y : Tombstone) (ys : List Tombstone) → list_all (λ (z : Tombstone). less x z) xs ≡ true → AreSorted (y ∷ ys)
    → ((t : Tombstone) → tomb_count t (x ∷ xs) ≡ tomb_count t (y ∷ ys)) → y ≡ x
same_first x xs y ys first up same =
    elim (decide (is_tomb y x)) [
      | inl p ↦ same_tomb y x p
      | inr p ↦
          elim (decide (is_tomb x y)) [
            | inl q ↦ sym (same_tomb x y q)
            | inr q ↦
                let y_itself = ap one_if (tomb_itself y) in
                let x_itself = ap one_if (tomb_itself x) in
                let y_other = ap one_if p in
                let x_other = ap one_if q in
                let y_same = same y in
                let x_same = same x in
                let y_later : 1 ≤ tomb_count y xs = omega (arith, y_itself, y_other, y_same) in
                let x_later : 1 ≤ tomb_count x ys = omega (arith, x_itself, x_other, x_same) in
                apart (less x y) (holds_of (λ (z : Tombstone). less x z) xs y first y_later)
                (not_true (less x y) (holds_of (λ (z : Tombstone). not (less z y)) ys x (none_less y ys up) x_later))
          ]
    ]

-- the sorted ones are those that rise
sorted_is : (xs ys : List Tombstone) → ids_rise xs ≡ true → AreSorted ys → ((t : Tombstone) → tomb_count t xs ≡ tomb_count t ys) → ys ≡ xs
sorted_is [] [] rise up same = refl
sorted_is [] (y ∷ ys) rise up same = let here = ap one_if (tomb_itself y) in let all = same y in absurd (omega (arith, here, all))
sorted_is (x ∷ xs) [] rise up same = let here = ap one_if (tomb_itself x) in let all = same x in absurd (omega (arith, here, all))
sorted_is (x ∷ xs) (y ∷ ys) rise up same =
    let both = and_true (list_all (λ (z : Tombstone). less x z) xs) (ids_rise xs) rise in
    let first = same_first x xs y ys both.0 up same in
    let rest = sorted_is xs ys both.1 (rest_sorted y ys up) (λ t.
    let here = ap (λ (z : Tombstone). one_if (is_tomb t z)) first in
    let all = same t in
    omega (arith, here, all)) in
    λ i. first i ∷ rest i

pub tombs_sorted : (now : ℕ) (t : Tree) (tombs sorted : List Tombstone) → ids_rise (tree_buried now t tombs) ≡ true → IsPermutation (tombs_of now t ++ tombs) sorted → AreSorted sorted
    → sorted ≡ tree_buried now t tombs
tombs_sorted now t tombs sorted rise moved up =
    let is = tree_put now t tombs in
    sorted_is (tree_buried now t tombs) sorted rise up (λ u.
    ap (tomb_count u) is ∙ count_put u (tombs_of now t) tombs ∙ sym (count_moved u (tombs_of now t ++ tombs) sorted moved))

-- what is copied
pub copied : {E : Type 0} (read sorted all : List Tombstone) (result : Result (List Tombstone) E) → read ≡ sorted → sorted ≡ all → IfOk result (λ copy. copy ≡ read)
    → IfOk result (λ copy. copy ≡ all)
copied read sorted all (Ok copy) same is e = e ∙ same ∙ is
copied read sorted all (Err x) same is e = tt
