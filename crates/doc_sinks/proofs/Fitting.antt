-- What is known of each part is known of the whole.
use Rattle.std.proofs.Common.{◌≡◌, ℕ, zero, suc, ◌+◌, ◌<◌, ◌≤◌, ◌^◌, Bool, true, false, List, [], ◌∷◌, length, drop, map, get_or, refl, ap, sym, ◌∙◌, add-one, arith, Fits, w8}
use Rattle.std.specs.Prelude.{◌&&◌, ◌==◌, nat_lt, nat_le}
use Rattle.std.specs.List.{list_all}
use Rattle.std.proofs.Math.Seq.{drop-cons}
use Rattle.std.proofs.lemmas.Bool.Decides.{nat_tests}
use Rattle.std.proofs.lemmas.List.{drop_all}
use Rattle.base64.specs.Engines.{standard}
use Rattle.base64.specs.GeneralPurpose.{encode_of}
use Rattle.doc_spelling.proofs.PlainCodes.{coded_plain}
use Rattle.markup_grammar.specs.Escapes.{escaped}

pub both : {a b : Bool} → a ≡ true → b ≡ true → (a && b) ≡ true
both {a = a} {b = b} p q = cc

pub below_is : (n m : ℕ) → n < m → nat_lt n m ≡ true
below_is n m h = grind (arith, nat_tests)

pub most_is : (n m : ℕ) → n ≤ m → nat_le n m ≡ true
most_is n m h = grind (arith, nat_tests)

pub same_is : (n m : ℕ) → n ≡ m → (n == m) ≡ true
same_is n m h = grind (arith, nat_tests)

pub all_more : {A B : Type 0} (p : B → Bool) (g : A → B) (xs : List A) (i : ℕ) (x : A)
    → i < length xs → x ≡ get_or xs i x → p (g x) ≡ true
    → list_all p (map g (drop i xs)) ≡ list_all p (map g xs) → list_all p (map g (drop (i + 1) xs)) ≡ list_all p (map g xs)
all_more p g xs i x below here holds before =
    let front : drop i xs ≡ x ∷ drop (suc i) xs = drop-cons xs i x below ∙ ap (λ y. y ∷ drop (suc i) xs) (sym here) in
    ap (λ (n : ℕ). list_all p (map g (drop n xs))) (add-one i)
    ∙ ap (λ (b : Bool). b && list_all p (map g (drop (suc i) xs))) (sym holds)
    ∙ sym (ap (λ ys. list_all p (map g ys)) front)
    ∙ before

pub all_end : {A B : Type 0} (p : B → Bool) (g : A → B) (xs : List A) (i : ℕ)
    → length xs ≤ i → list_all p (map g (drop i xs)) ≡ list_all p (map g xs) → list_all p (map g xs) ≡ true
all_end p g xs i past before = sym before ∙ ap (λ ys. list_all p (map g ys)) (drop_all i xs past)

-- base64 of bytes is not escaped
pub bytes_stand : (bs : List ℕ) → ((i : ℕ) → Fits w8 (get_or bs i 0)) → escaped (encode_of standard bs) ≡ encode_of standard bs
bytes_stand bs h = coded_plain bs (λ i. omega (arith, h i))

-- the same of items that are seen as they are
pub all_next : {A : Type 0} (p : A → Bool) (xs : List A) (i : ℕ) (x : A)
    → i < length xs → x ≡ get_or xs i x → p x ≡ true
    → list_all p (drop i xs) ≡ list_all p xs → list_all p (drop (i + 1) xs) ≡ list_all p xs
all_next p xs i x below here holds before =
    let front : drop i xs ≡ x ∷ drop (suc i) xs = drop-cons xs i x below ∙ ap (λ y. y ∷ drop (suc i) xs) (sym here) in
    ap (λ (n : ℕ). list_all p (drop n xs)) (add-one i)
    ∙ ap (λ (b : Bool). b && list_all p (drop (suc i) xs)) (sym holds)
    ∙ sym (ap (λ ys. list_all p ys) front)
    ∙ before

pub all_last : {A : Type 0} (p : A → Bool) (xs : List A) (i : ℕ)
    → length xs ≤ i → list_all p (drop i xs) ≡ list_all p xs → list_all p xs ≡ true
all_last p xs i past before = sym before ∙ ap (λ ys. list_all p ys) (drop_all i xs past)
