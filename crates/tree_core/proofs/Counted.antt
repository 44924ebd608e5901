-- How often an id stands in a list: ids that stand once are counted, so that lists put together add up.
use Rattle.std.proofs.Common.{◌≡◌, ◌≤◌, ◌+◌, ℕ, Bool, true, false, not, cond, ◌||◌, inl, inr, List, [], ◌∷◌, ◌++◌, refl, ap, ◌∙◌, arith}
use Rattle.std.specs.List.{list_all, list_any}
use Rattle.vault_model.specs.Db.{NodeId}
use Rattle.vault_model.specs.Join.{is_id}
use Rattle.vault_model.specs.Tree.{Tree, are_distinct, is_elsewhere, node_ids}
use Rattle.vault_model.proofs.Ids.{id_itself, same_id}
use Rattle.vault_model.proofs.Tests.{and_both, and_true, decide, not_false, not_true, or_false}

abbrev pub one_if : Bool → ℕ
one_if b = cond b 1 0

abbrev pub occurs : NodeId → List NodeId → ℕ
occurs u [] = 0
occurs u (x ∷ xs) = one_if (is_id u x) + occurs u xs

pub occurs-append : (u : NodeId) (xs ys : List NodeId) → occurs u (xs ++ ys) ≡ occurs u xs + occurs u ys
occurs-append u [] ys = omega arith
occurs-append u (x ∷ xs) ys = let rest = occurs-append u xs ys in omega (arith, rest)

pub occurs_none : (u : NodeId) (xs : List NodeId) → list_any (is_id u) xs ≡ false → occurs u xs ≡ 0
occurs_none u [] e = refl
occurs_none u (x ∷ xs) e =
    let both = or_false (is_id u x) (list_any (is_id u) xs) e in
    let here = ap one_if both.0 in
    let rest = occurs_none u xs both.1 in
    omega (arith, here, rest)

pub none_occurs : (u : NodeId) (xs : List NodeId) → occurs u xs ≡ 0 → list_any (is_id u) xs ≡ false
none_occurs u [] e = refl
none_occurs u (x ∷ xs) e =
    elim (decide (is_id u x)) [
      | inl p ↦ let here = ap one_if p in absurd (omega (arith, here, e))
      | inr p ↦
          let here = ap one_if p in
          let none : occurs u xs ≡ 0 = omega (arith, here, e) in
          ap (λ b. b || list_any (is_id u) xs) p ∙ none_occurs u xs none
    ]

pub once : (xs : List NodeId) → are_distinct xs ≡ true → (u : NodeId) → occurs u xs ≤ 1
once [] e u = omega arith
once (x ∷ xs) e u =
    let both = and_true (not (list_any (is_id x) xs)) (are_distinct xs) e in
    elim (decide (is_id u x)) [
      | inl p ↦
          let here = ap one_if p in
          let none = occurs_none x xs (not_true (list_any (is_id x) xs) both.0) in
          let same = ap (λ y. occurs y xs) (same_id u x p) in
          omega (arith, here, none, same)
      | inr p ↦
          let here = ap one_if p in
          let rest = once xs both.1 u in
          omega (arith, here, rest)
    ]

pub distinct : (xs : List NodeId) → ((u : NodeId) → occurs u xs ≤ 1) → are_distinct xs ≡ true
distinct [] f = refl
distinct (x ∷ xs) f =
    let here = ap one_if (id_itself x) in
    let most = f x in
    let none : occurs x xs ≡ 0 = omega (arith, here, most) in
    and_both (not (list_any (is_id x) xs)) (are_distinct xs)
    (not_false (list_any (is_id x) xs) (none_occurs x xs none))
    (distinct xs (λ u. let more = f u in omega (arith, more)))

-- ---- what holds of all

pub all_front : {A : Type 0} (test : A → Bool) (xs ys : List A) → list_all test (xs ++ ys) ≡ true → (list_all test xs ≡ true) × (list_all test ys ≡ true)
all_front test [] ys e = (refl, e)
all_front test (x ∷ xs) ys e =
    let both = and_true (test x) (list_all test (xs ++ ys)) e in
    let rest = all_front test xs ys both.1 in
    (and_both (test x) (list_all test xs) both.0 rest.0, rest.1)

pub all_append : {A : Type 0} (test : A → Bool) (xs ys : List A) → list_all test xs ≡ true → list_all test ys ≡ true → list_all test (xs ++ ys) ≡ true
all_append test [] ys d e = e
all_append test (x ∷ xs) ys d e =
    let both = and_true (test x) (list_all test xs) d in
    and_both (test x) (list_all test (xs ++ ys)) both.0 (all_append test xs ys both.1 e)

pub all_both : {A : Type 0} (p q r : A → Bool) (xs : List A) → ((x : A) → p x ≡ true → q x ≡ true → r x ≡ true) → list_all p xs ≡ true → list_all q xs ≡ true → list_all r xs ≡ true
all_both p q r [] f d e = refl
all_both p q r (x ∷ xs) f d e =
    let ps = and_true (p x) (list_all p xs) d in
    let qs = and_true (q x) (list_all q xs) e in
    and_both (r x) (list_all r xs) (f x ps.0 qs.0) (all_both p q r xs f ps.1 qs.1)

-- ---- ids of a tree

pub elsewhere_occurs : (t : Tree) (u : NodeId) → is_elsewhere t u ≡ true → occurs u (node_ids t) ≡ 0
elsewhere_occurs t u e = occurs_none u (node_ids t) (not_true (list_any (is_id u) (node_ids t)) e)

pub occurs_elsewhere : (t : Tree) (u : NodeId) → occurs u (node_ids t) ≡ 0 → is_elsewhere t u ≡ true
occurs_elsewhere t u e = not_false (list_any (is_id u) (node_ids t)) (none_occurs u (node_ids t) e)
