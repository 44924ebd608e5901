-- Lists that rise by their keys, and one more thing put into them.
use Rattle.std.proofs.Common.{◌≡◌, ℕ, Bool, true, List, [], ◌∷◌, ◌++◌, refl, ap, sym, subst, ◌∙◌}
use Rattle.std.specs.declared.cmp.Ordering.{Ordering}
use Rattle.std.specs.declared.cmp.Ordering.TheVariants.{Less, Equal, Greater}
use Rattle.std.specs.List.{list_all}
use Rattle.std.specs.Ordering.{is_lt, ordering_reverse}
use Rattle.vault_model.specs.Orders.{bytes_cmp}
use Rattle.vault_model.specs.Proper.{rises}
use Rattle.vault_model.proofs.Orders.{bytes_order}
use Rattle.vault_model.proofs.Tests.{and_true, and_both}
use Rattle.doc_forms.specs.Tables.{put, put_beside}

-- ---- all of a list

pub all_but_more : {A : Type 0} (few more : A → Bool) (xs : List A) → ((x : A) → few x ≡ true → more x ≡ true) → list_all few xs ≡ true → list_all more xs ≡ true
all_but_more few more [] f e = refl
all_but_more few more (x ∷ xs) f e =
    let both = and_true (few x) (list_all few xs) e in
    and_both (more x) (list_all more xs) (f x both.0) (all_but_more few more xs f both.1)

pub all_later : {A : Type 0} (test : A → Bool) (xs : List A) (x : A) → list_all test xs ≡ true → test x ≡ true → list_all test (xs ++ x ∷ []) ≡ true
all_later test [] x e t = and_both (test x) true t refl
all_later test (y ∷ ys) x e t =
    let both = and_true (test y) (list_all test ys) e in
    and_both (test y) (list_all test (ys ++ x ∷ [])) both.0 (all_later test ys x both.1 t)

-- ---- keys

less_from : (r : Ordering) → is_lt r ≡ true → r ≡ Less
less_from Less e = refl
less_from Equal e = cc e
less_from Greater e = cc e

before_all : (a b c : List ℕ) → bytes_cmp a b ≡ Less → is_lt (bytes_cmp b c) ≡ true → is_lt (bytes_cmp a c) ≡ true
before_all a b c ab bc = ap is_lt (bytes_order.total.trans a b c ab (less_from (bytes_cmp b c) bc))

reversed_order : (a b : List ℕ) → bytes_cmp a b ≡ Greater → bytes_cmp b a ≡ Less
reversed_order a b e = bytes_order.total.antisymm b a ∙ ap ordering_reverse e

-- ---- lists with keys

module _ {A : Type 0} (key : A → List ℕ) where
  -- what holds of all and of one more holds of all with that one among them
  all_put_beside : (test : A → Bool) (x y : A) (ys later : List A) (r : Ordering) → test x ≡ true → test y ≡ true → list_all test ys ≡ true → list_all test later ≡ true
      → list_all test (put_beside r x y ys later) ≡ true
  all_put_beside test x y ys later Less tx ty tys tb = and_both (test x) (list_all test (y ∷ ys)) tx (and_both (test y) (list_all test ys) ty tys)
  all_put_beside test x y ys later Equal tx ty tys tb = and_both (test x) (list_all test ys) tx tys
  all_put_beside test x y ys later Greater tx ty tys tb = and_both (test y) (list_all test later) ty tb

  pub all_put : (test : A → Bool) (x : A) (xs : List A) → test x ≡ true → list_all test xs ≡ true → list_all test (put key x xs) ≡ true
  all_put test x [] tx txs = and_both (test x) true tx refl
  all_put test x (y ∷ ys) tx txs =
      let both = and_true (test y) (list_all test ys) txs in
      all_put_beside test x y ys (put key x ys) (bytes_cmp (key x) (key y)) tx both.0 both.1 (all_put test x ys tx both.1)

  rises_put_beside : (x y : A) (ys : List A) (r : Ordering) → bytes_cmp (key x) (key y) ≡ r
      → list_all (λ z. is_lt (bytes_cmp (key y) (key z))) ys ≡ true → rises key ys ≡ true → rises key (put key x ys) ≡ true
      → rises key (put_beside r x y ys (put key x ys)) ≡ true
  rises_put_beside x y ys Less e first rest later =
      let later = all_but_more (λ z. is_lt (bytes_cmp (key y) (key z))) (λ z. is_lt (bytes_cmp (key x) (key z))) ys
      (λ z. before_all (key x) (key y) (key z) e) first in
      and_both (list_all (λ z. is_lt (bytes_cmp (key x) (key z))) (y ∷ ys)) (rises key (y ∷ ys))
      (and_both (is_lt (bytes_cmp (key x) (key y))) (list_all (λ z. is_lt (bytes_cmp (key x) (key z))) ys) (ap is_lt e) later)
      (and_both (list_all (λ z. is_lt (bytes_cmp (key y) (key z))) ys) (rises key ys) first rest)
  rises_put_beside x y ys Equal e first rest later =
      and_both (list_all (λ z. is_lt (bytes_cmp (key x) (key z))) ys) (rises key ys)
      (subst (λ (k : List ℕ). list_all (λ z. is_lt (bytes_cmp k (key z))) ys ≡ true) (sym (bytes_order.same (key x) (key y) e)) first) rest
  rises_put_beside x y ys Greater e first rest later =
      and_both (list_all (λ z. is_lt (bytes_cmp (key y) (key z))) (put key x ys)) (rises key (put key x ys))
      (all_put (λ z. is_lt (bytes_cmp (key y) (key z))) x ys (ap is_lt (reversed_order (key x) (key y) e)) first) later

  pub rises_put : (x : A) (xs : List A) → rises key xs ≡ true → rises key (put key x xs) ≡ true
  rises_put x [] up = refl
  rises_put x (y ∷ ys) up =
      let both = and_true (list_all (λ z. is_lt (bytes_cmp (key y) (key z))) ys) (rises key ys) up in
      rises_put_beside x y ys (bytes_cmp (key x) (key y)) refl both.0 both.1 (rises_put x ys both.1)

-- a list rises by its keys, and each thing in it passes a test
abbrev pub Rising : {A : Type 0} → (A → List ℕ) → (A → Bool) → List A → Type 0
Rising key test xs = (rises key xs ≡ true) × (list_all test xs ≡ true)

pub one_more : {A : Type 0} (key : A → List ℕ) (test : A → Bool) (x : A) (xs : List A) → test x ≡ true → Rising key test xs → Rising key test (put key x xs)
one_more key test x xs t r = (rises_put key x xs r.0, all_put key test x xs t r.1)
