-- Lists that rise by their keys: with one item more, without one, and a key that comes after all of them.
use Rattle.std.proofs.Common.{◌≡◌, ℕ, zero, suc, ◌-◌, Bool, true, false, cond, Some, List, [], ◌∷◌, ◌++◌, length, take, drop, refl, ap, sym, subst, ◌∙◌, arith}
use Rattle.std.specs.declared.cmp.Ordering.{Ordering}
use Rattle.std.specs.declared.cmp.Ordering.TheVariants.{Less, Equal, Greater}
use Rattle.std.specs.List.{list_all, slice_get}
use Rattle.std.specs.Ordering.{is_lt, is_gt, is_eq, ordering_reverse}
use Rattle.vault_model.specs.Orders.{bytes_cmp}
use Rattle.vault_model.specs.Proper.{rises}
use Rattle.vault_model.proofs.Orders.{bytes_order}
use Rattle.vault_model.proofs.Tests.{and_true, and_both}
use Rattle.doc_forms.specs.Tables.{put_beside, put, position_of, without_key}

-- ---- all of a list

pub all_but_more : {A : Type 0} (few more : A → Bool) (xs : List A) → ((x : A) → few x ≡ true → more x ≡ true) → list_all few xs ≡ true → list_all more xs ≡ true
all_but_more few more [] f e = refl
all_but_more few more (x ∷ xs) f e =
    let both = and_true (few x) (list_all few xs) e in
    and_both (more x) (list_all more xs) (f x both.0) (all_but_more few more xs f both.1)

-- ---- keys

less_from : (r : Ordering) → is_lt r ≡ true → r ≡ Less
less_from Less e = refl
less_from Equal e = cc e
less_from Greater e = cc e

before_all : (a b c : List ℕ) → bytes_cmp a b ≡ Less → is_lt (bytes_cmp b c) ≡ true → is_lt (bytes_cmp a c) ≡ true
before_all a b c ab bc = ap is_lt (bytes_order.total.trans a b c ab (less_from (bytes_cmp b c) bc))

turned : (a b : List ℕ) → bytes_cmp a b ≡ Greater → bytes_cmp b a ≡ Less
turned a b e = bytes_order.total.antisymm b a ∙ ap ordering_reverse e

-- ---- lists with keys

module _ {A : Type 0} (key : A → List ℕ) where
  -- what holds of all and of one more holds of all with that one among them
  all_placed : (test : A → Bool) (x y : A) (ys after : List A) (r : Ordering) → test x ≡ true → test y ≡ true → list_all test ys ≡ true → list_all test after ≡ true
      → list_all test (put_beside r x y ys after) ≡ true
  all_placed test x y ys after Less tx ty tys tb = and_both (test x) (list_all test (y ∷ ys)) tx (and_both (test y) (list_all test ys) ty tys)
  all_placed test x y ys after Equal tx ty tys tb = and_both (test x) (list_all test ys) tx tys
  all_placed test x y ys after Greater tx ty tys tb = and_both (test y) (list_all test after) ty tb

  pub all_put : (test : A → Bool) (x : A) (xs : List A) → test x ≡ true → list_all test xs ≡ true → list_all test (put key x xs) ≡ true
  all_put test x [] tx txs = and_both (test x) true tx refl
  all_put test x (y ∷ ys) tx txs =
      let both = and_true (test y) (list_all test ys) txs in
      all_placed test x y ys (put key x ys) (bytes_cmp (key x) (key y)) tx both.0 both.1 (all_put test x ys tx both.1)

  rises_placed : (x y : A) (ys : List A) (r : Ordering) → bytes_cmp (key x) (key y) ≡ r
      → list_all (λ z. is_lt (bytes_cmp (key y) (key z))) ys ≡ true → rises key ys ≡ true → rises key (put key x ys) ≡ true
      → rises key (put_beside r x y ys (put key x ys)) ≡ true
  rises_placed x y ys Less e first rest after =
      let later = all_but_more (λ z. is_lt (bytes_cmp (key y) (key z))) (λ z. is_lt (bytes_cmp (key x) (key z))) ys
      (λ z. before_all (key x) (key y) (key z) e) first in
      and_both (list_all (λ z. is_lt (bytes_cmp (key x) (key z))) (y ∷ ys)) (rises key (y ∷ ys))
      (and_both (is_lt (bytes_cmp (key x) (key y))) (list_all (λ z. is_lt (bytes_cmp (key x) (key z))) ys) (ap is_lt e) later)
      (and_both (list_all (λ z. is_lt (bytes_cmp (key y) (key z))) ys) (rises key ys) first rest)
  rises_placed x y ys Equal e first rest after =
      and_both (list_all (λ z. is_lt (bytes_cmp (key x) (key z))) ys) (rises key ys)
      (subst (λ (k : List ℕ). list_all (λ z. is_lt (bytes_cmp k (key z))) ys ≡ true) (sym (bytes_order.same (key x) (key y) e)) first) rest
  rises_placed x y ys Greater e first rest after =
      and_both (list_all (λ z. is_lt (bytes_cmp (key y) (key z))) (put key x ys)) (rises key (put key x ys))
      (all_put (λ z. is_lt (bytes_cmp (key y) (key z))) x ys (ap is_lt (turned (key x) (key y) e)) first) after

  pub rises_put : (x : A) (xs : List A) → rises key xs ≡ true → rises key (put key x xs) ≡ true
  rises_put x [] up = refl
  rises_put x (y ∷ ys) up =
      let both = and_true (list_all (λ z. is_lt (bytes_cmp (key y) (key z))) ys) (rises key ys) up in
      rises_placed x y ys (bytes_cmp (key x) (key y)) refl both.0 both.1 (rises_put x ys both.1)

-- ---- a key after the last one

greater_from : (r : Ordering) → is_gt r ≡ true → r ≡ Greater
greater_from Less e = cc e
greater_from Equal e = cc e
greater_from Greater e = refl

-- of three keys, the last after the second and that after the first
after_both : (a b k : List ℕ) → is_lt (bytes_cmp a b) ≡ true → is_gt (bytes_cmp k b) ≡ true → is_gt (bytes_cmp k a) ≡ true
after_both a b k ab kb =
    let bk : bytes_cmp b k ≡ Less = bytes_order.total.antisymm b k ∙ ap ordering_reverse (greater_from (bytes_cmp k b) kb) in
    let ak : bytes_cmp a k ≡ Less = bytes_order.total.trans a b k (less_from (bytes_cmp a b) ab) bk in
    ap is_gt (bytes_order.total.antisymm k a ∙ ap ordering_reverse ak)

all_of_two : {A : Type 0} (b : Bool) (test : A → Bool) (xs ys : List A) → list_all test xs ≡ true → list_all test ys ≡ true → list_all test (cond b xs ys) ≡ true
all_of_two true test xs ys e f = e
all_of_two false test xs ys e f = f

rises_of_two : {A : Type 0} (b : Bool) (key : A → List ℕ) (xs ys : List A) → rises key xs ≡ true → rises key ys ≡ true → rises key (cond b xs ys) ≡ true
rises_of_two true key xs ys e f = e
rises_of_two false key xs ys e f = f

one_of : {A : Type 0} (test : A → Bool) (xs : List A) (n : ℕ) (x : A) → list_all test xs ≡ true → slice_get xs n ≡ Some x → test x ≡ true
one_of test [] n x all is = cc
one_of test (y ∷ ys) zero x all is =
    let same : y ≡ x = cc in
    rw (sym same) ((and_true (test y) (list_all test ys) all).0)
one_of test (y ∷ ys) (suc n) x all is = one_of test ys n x ((and_true (test y) (list_all test ys) all).1) is

after_to : {A : Type 0} (key : A → List ℕ) (k : List ℕ) (x : A) (xs : List A) (n : ℕ)
    → rises key xs ≡ true → suc n ≡ length xs → slice_get xs n ≡ Some x → is_gt (bytes_cmp k (key x)) ≡ true
    → length xs ≡ position_of key k xs
after_to key k x [] n up whole is gt = cc
after_to key k x (y ∷ []) zero up whole is gt =
    let same : y ≡ x = cc in
    rw same (rw gt refl)
after_to key k x (y ∷ []) (suc n) up whole is gt = absurd (omega arith)
after_to key k x (y ∷ z ∷ ys) zero up whole is gt = absurd (omega arith)
after_to key k x (y ∷ z ∷ ys) (suc n) up whole is gt =
    let both = and_true (list_all (λ w. is_lt (bytes_cmp (key y) (key w))) (z ∷ ys)) (rises key (z ∷ ys)) up in
    let first = one_of (λ w. is_lt (bytes_cmp (key y) (key w))) (z ∷ ys) n x both.0 is in
    let here : is_gt (bytes_cmp k (key y)) ≡ true = after_both (key y) (key x) k first gt in
    let rest = after_to key k x (z ∷ ys) n both.1 (omega arith) is gt in
    rw here (rw (sym rest) (omega arith))

pub after_all : {A : Type 0} (key : A → List ℕ) (k : List ℕ) (x : A) (xs : List A)
    → rises key xs ≡ true → slice_get xs (length xs - 1) ≡ Some x → is_gt (bytes_cmp k (key x)) ≡ true
    → length xs ≡ position_of key k xs
after_all key k x [] up is gt = cc
after_all key k x (y ∷ ys) up is gt =
    after_to key k x (y ∷ ys) (length ys) up refl (subst (λ m. slice_get (y ∷ ys) m ≡ Some x) (omega arith) is) gt

-- ---- without an item

all_without : {A : Type 0} (test : A → Bool) (key : A → List ℕ) (k : List ℕ) (list : List A) (n : ℕ)
    → list_all test list ≡ true → list_all test (take n list ++ without_key key k (drop n list)) ≡ true
all_without test key k [] zero all = refl
all_without test key k [] (suc n) all = refl
all_without test key k (x ∷ xs) zero all =
    all_of_two (is_eq (bytes_cmp k (key x))) test xs (x ∷ xs) ((and_true (test x) (list_all test xs) all).1) all
all_without test key k (x ∷ xs) (suc n) all =
    let both = and_true (test x) (list_all test xs) all in
    and_both (test x) (list_all test (take n xs ++ without_key key k (drop n xs))) both.0 (all_without test key k xs n both.1)

pub rises_without : {A : Type 0} (key : A → List ℕ) (k : List ℕ) (list : List A) (n : ℕ)
    → rises key list ≡ true → rises key (take n list ++ without_key key k (drop n list)) ≡ true
rises_without key k [] zero up = refl
rises_without key k [] (suc n) up = refl
rises_without key k (x ∷ xs) zero up =
    rises_of_two (is_eq (bytes_cmp k (key x))) key xs (x ∷ xs) ((and_true (list_all (λ y. is_lt (bytes_cmp (key x) (key y))) xs) (rises key xs) up).1) up
rises_without key k (x ∷ xs) (suc n) up =
    let both = and_true (list_all (λ y. is_lt (bytes_cmp (key x) (key y))) xs) (rises key xs) up in
    and_both (list_all (λ y. is_lt (bytes_cmp (key x) (key y))) (take n xs ++ without_key key k (drop n xs))) (rises key (take n xs ++ without_key key k (drop n xs)))
    (all_without (λ y. is_lt (bytes_cmp (key x) (key y))) key k xs n both.0) (rises_without key k xs n both.1)
