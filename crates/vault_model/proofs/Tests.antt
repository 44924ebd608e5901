-- Tests as facts, and members of lists.
use mathlib.Core.Bool.{true≢false}
use Rattle.std.proofs.Common.{◌≡◌, ◌≤◌, ℕ, Bool, true, false, not, cond, ◌||◌, ◌&&◌, ◌⊎◌, inl, inr, List, [], ◌∷◌, ◌++◌, Option, Some, None, map, is_some, refl, sym, ap, subst, ◌∙◌, arith}
use Rattle.std.specs.List.{list_any, flat_map, filter}
use Rattle.vault_model.specs.Db.{greatest}
use Rattle.vault_model.specs.Join.{IsIn}

-- ---- tests

pub or_cases : (a b : Bool) → (a || b) ≡ true → (a ≡ true) ⊎ (b ≡ true)
or_cases true b e = inl refl
or_cases false b e = inr e

pub or_left : (a b : Bool) → a ≡ true → (a || b) ≡ true
or_left a b e = ap (λ x. x || b) e

pub or_right : (a b : Bool) → b ≡ true → (a || b) ≡ true
or_right true b e = refl
or_right false b e = e

pub or_false : (a b : Bool) → (a || b) ≡ false → (a ≡ false) × (b ≡ false)
or_false true b e = absurd (true≢false e)
or_false false b e = (refl, e)

pub and_true : (a b : Bool) → (a && b) ≡ true → (a ≡ true) × (b ≡ true)
and_true true b e = (refl, e)
and_true false b e = absurd (true≢false (sym e))

pub and_both : (a b : Bool) → a ≡ true → b ≡ true → (a && b) ≡ true
and_both a b d e = ap (λ x. x && b) d ∙ e

pub not_true : (a : Bool) → not a ≡ true → a ≡ false
not_true true e = absurd (true≢false (sym e))
not_true false e = refl

pub not_false : (a : Bool) → a ≡ false → not a ≡ true
not_false a e = ap not e

pub is_false : (a : Bool) → (a ≡ true → ⊥) → a ≡ false
is_false true f = absurd (f refl)
is_false false f = refl

pub apart : {A : Type 0} (a : Bool) → a ≡ true → a ≡ false → A
apart a d e = absurd (true≢false (sym d ∙ e))

pub decide : (a : Bool) → (a ≡ true) ⊎ (a ≡ false)
decide true = inl refl
decide false = inr refl

-- ---- options

pub some_of : {A : Type 0} (o : Option A) → is_some o ≡ true → (x : A) × (o ≡ Some x)
some_of None e = absurd (true≢false (sym e))
some_of (Some x) e = (x, refl)

pub none_of : {A : Type 0} (o : Option A) → is_some o ≡ false → o ≡ None
none_of None e = refl
none_of (Some x) e = absurd (true≢false e)

pub some_is : {A : Type 0} (o : Option A) (x : A) → o ≡ Some x → is_some o ≡ true
some_is o x e = ap is_some e

pub none_is : {A : Type 0} (o : Option A) → o ≡ None → is_some o ≡ false
none_is o e = ap is_some e

-- ---- members

module _ {A : Type 0} where
  pub any_true : (test : A → Bool) (xs : List A) (x : A) → IsIn x xs → test x ≡ true → list_any test xs ≡ true
  any_true test [] x h e = absurd h
  any_true test (y ∷ ys) x (inl p) e = or_left (test y) (list_any test ys) (ap test p ∙ e)
  any_true test (y ∷ ys) x (inr h) e = or_right (test y) (list_any test ys) (any_true test ys x h e)

  pub any_found : (test : A → Bool) (xs : List A) → list_any test xs ≡ true → (x : A) × (IsIn x xs × (test x ≡ true))
  any_found test [] e = absurd (true≢false (sym e))
  any_found test (y ∷ ys) e =
      elim (or_cases (test y) (list_any test ys) e) [
        | inl d ↦ (y, (inl refl, d))
        | inr d ↦ let f = any_found test ys d in (f.0, (inr f.1.0, f.1.1))
      ]

  pub any_false : (test : A → Bool) (xs : List A) (x : A) → list_any test xs ≡ false → IsIn x xs → test x ≡ false
  any_false test xs x e h = is_false (test x) (λ d. apart (list_any test xs) (any_true test xs x h d) e)

  pub any_none : (test : A → Bool) (xs : List A) → ((x : A) → IsIn x xs → test x ≡ false) → list_any test xs ≡ false
  any_none test xs f = is_false (list_any test xs) (λ e. let g = any_found test xs e in apart (test g.0) g.1.1 (f g.0 g.1.0))

  pub any_same : (f g : A → Bool) (xs : List A) → ((x : A) → IsIn x xs → f x ≡ g x) → list_any f xs ≡ list_any g xs
  any_same f g [] same = refl
  any_same f g (x ∷ xs) same =
      let rest = any_same f g xs (λ y h. same y (inr h)) in
      λ i. same x (inl refl) i || rest i

  pub in_front : (xs ys : List A) (x : A) → IsIn x xs → IsIn x (xs ++ ys)
  in_front [] ys x h = absurd h
  in_front (y ∷ xs) ys x (inl p) = inl p
  in_front (y ∷ xs) ys x (inr h) = inr (in_front xs ys x h)

  pub in_back : (xs ys : List A) (x : A) → IsIn x ys → IsIn x (xs ++ ys)
  in_back [] ys x h = h
  in_back (y ∷ xs) ys x h = inr (in_back xs ys x h)

  pub in_either : (xs ys : List A) (x : A) → IsIn x (xs ++ ys) → IsIn x xs ⊎ IsIn x ys
  in_either [] ys x h = inr h
  in_either (y ∷ xs) ys x (inl p) = inl (inl p)
  in_either (y ∷ xs) ys x (inr h) = elim (in_either xs ys x h) [ inl a ↦ inl (inr a) | inr b ↦ inr b ]

  one_more : (b : Bool) (y x : A) (ys : List A) → IsIn x ys → IsIn x (cond b (y ∷ ys) ys)
  one_more true y x ys h = inr h
  one_more false y x ys h = h

  pub in_filter : (test : A → Bool) (xs : List A) (x : A) → IsIn x xs → test x ≡ true → IsIn x (filter test xs)
  in_filter test [] x h e = absurd h
  in_filter test (y ∷ ys) x (inl p) e = subst (λ b. IsIn x (cond b (y ∷ filter test ys) (filter test ys))) (sym (ap test p ∙ e)) (inl p)
  in_filter test (y ∷ ys) x (inr h) e = one_more (test y) y x (filter test ys) (in_filter test ys x h e)

  pub from_filter : (test : A → Bool) (xs : List A) (x : A) → IsIn x (filter test xs) → IsIn x xs × (test x ≡ true)
  from_filter test [] x h = absurd h
  from_filter test (y ∷ ys) x h =
      elim (decide (test y)) [
        | inl e ↦ elim (subst (λ b. IsIn x (cond b (y ∷ filter test ys) (filter test ys))) e h) [
          | inl p ↦ (inl p, ap test (sym p) ∙ e)
          | inr k ↦ let f = from_filter test ys x k in (inr f.0, f.1)
        ]
        | inr e ↦ let f = from_filter test ys x (subst (λ b. IsIn x (cond b (y ∷ filter test ys) (filter test ys))) e h) in (inr f.0, f.1)
      ]

module _ {A B : Type 0} where
  pub in_map : (f : A → B) (xs : List A) (x : A) → IsIn x xs → IsIn (f x) (map f xs)
  in_map f [] x h = absurd h
  in_map f (y ∷ ys) x (inl p) = inl (ap f p)
  in_map f (y ∷ ys) x (inr h) = inr (in_map f ys x h)

  pub from_map : (f : A → B) (xs : List A) (y : B) → IsIn y (map f xs) → (x : A) × (IsIn x xs × (f x ≡ y))
  from_map f [] y h = absurd h
  from_map f (x ∷ xs) y (inl p) = (x, (inl refl, p))
  from_map f (x ∷ xs) y (inr h) = let g = from_map f xs y h in (g.0, (inr g.1.0, g.1.1))

  pub in_flat : (f : A → List B) (xs : List A) (x : A) (y : B) → IsIn x xs → IsIn y (f x) → IsIn y (flat_map f xs)
  in_flat f [] x y h k = absurd h
  in_flat f (z ∷ zs) x y (inl p) k = in_front (f z) (flat_map f zs) y (subst (λ (a : A). IsIn y (f a)) (sym p) k)
  in_flat f (z ∷ zs) x y (inr h) k = in_back (f z) (flat_map f zs) y (in_flat f zs x y h k)

  pub from_flat : (f : A → List B) (xs : List A) (y : B) → IsIn y (flat_map f xs) → (x : A) × (IsIn x xs × IsIn y (f x))
  from_flat f [] y h = absurd h
  from_flat f (z ∷ zs) y h =
      elim (in_either (f z) (flat_map f zs) y h) [
        | inl k ↦ (z, (inl refl, k))
        | inr k ↦ let g = from_flat f zs y k in (g.0, (inr g.1.0, g.1.1))
      ]

  pub map_same : (f g : A → B) (xs : List A) → ((x : A) → IsIn x xs → f x ≡ g x) → map f xs ≡ map g xs
  map_same f g [] same = refl
  map_same f g (x ∷ xs) same = let rest = map_same f g xs (λ y h. same y (inr h)) in λ i. same x (inl refl) i ∷ rest i

  pub any_map : (f : A → B) (test : B → Bool) (xs : List A) → list_any test (map f xs) ≡ list_any (λ x. test (f x)) xs
  any_map f test [] = refl
  any_map f test (x ∷ xs) = ap (λ b. test (f x) || b) (any_map f test xs)

pub map_map : {A B C : Type 0} (f : A → B) (g : B → C) (xs : List A) → map g (map f xs) ≡ map (λ x. g (f x)) xs
map_map f g [] = refl
map_map f g (x ∷ xs) = ap (λ ys. g (f x) ∷ ys) (map_map f g xs)

pub map_append : {A B : Type 0} (f : A → B) (xs ys : List A) → map f (xs ++ ys) ≡ map f xs ++ map f ys
map_append f [] ys = refl
map_append f (x ∷ xs) ys = ap (λ zs. f x ∷ zs) (map_append f xs ys)

-- ---- the greatest of some numbers

pub greatest_above : (ns : List ℕ) (n : ℕ) → IsIn n ns → n ≤ greatest ns
greatest_above [] n h = absurd h
greatest_above (m ∷ ms) n (inl p) = omega (arith, p)
greatest_above (m ∷ ms) n (inr h) = let below = greatest_above ms n h in omega arith

pub greatest_below : (ns : List ℕ) (b : ℕ) → ((n : ℕ) → IsIn n ns → n ≤ b) → greatest ns ≤ b
greatest_below [] b f = omega arith
greatest_below (m ∷ ms) b f =
    let here = f m (inl refl) in
    let rest = greatest_below ms b (λ n h. f n (inr h)) in
    omega arith
