-- How far a list is walked while a test holds of its items.
use Rattle.std.proofs.Common.{◌≡◌, ℕ, suc, ◌+◌, ◌<◌, ◌≤◌, Bool, true, false, cond, List, ◌∷◌, length, drop, get_or, sym, ap, ◌∙◌, arith}
use Rattle.std.proofs.Math.Seq.{drop-cons}
use Rattle.std.proofs.lemmas.List.{drop_all}
use Rattle.std.specs.List.{prefix_len}

-- the item at an index, and what is left after it
one_left : {A : Type 0} (items : List A) (at : ℕ) (x : A) → at < length items → x ≡ get_or items at x → drop at items ≡ x ∷ drop (at + 1) items
one_left items at x within is =
    let next : suc at ≡ at + 1 = omega arith in
    drop-cons items at x within ∙ ap (λ y. y ∷ drop (suc at) items) (sym is) ∙ ap (λ n. x ∷ drop n items) next

one_further : (at n : ℕ) → at + (1 + n) ≡ at + 1 + n
one_further at n = omega arith

no_further : (at : ℕ) → at + 0 ≡ at
no_further at = omega arith

-- the test holds of the items before the one at the index, and of that item too
pub passed_more : {A : Type 0} (test : A → Bool) (items : List A) (at : ℕ) (x : A) → at < length items → x ≡ get_or items at x
    → prefix_len test items ≡ at + prefix_len test (drop at items) → test x ≡ true
    → prefix_len test items ≡ at + 1 + prefix_len test (drop (at + 1) items)
passed_more test items at x within is passed holds =
    passed
    ∙ ap (λ l. at + prefix_len test l) (one_left items at x within is)
    ∙ ap (λ b. at + cond b (1 + prefix_len test (drop (at + 1) items)) 0) holds
    ∙ one_further at (prefix_len test (drop (at + 1) items))

-- it does not hold of that item
pub passed_until : {A : Type 0} (test : A → Bool) (items : List A) (at : ℕ) (x : A) → at < length items → x ≡ get_or items at x
    → prefix_len test items ≡ at + prefix_len test (drop at items) → test x ≡ false
    → at ≡ prefix_len test items
passed_until test items at x within is passed fails =
    sym
    (passed
    ∙ ap (λ l. at + prefix_len test l) (one_left items at x within is)
    ∙ ap (λ b. at + cond b (1 + prefix_len test (drop (at + 1) items)) 0) fails
    ∙ no_further at)

-- no item is left
pub passed_all : {A : Type 0} (test : A → Bool) (items : List A) (at : ℕ) → length items ≤ at → at ≤ length items
    → prefix_len test items ≡ at + prefix_len test (drop at items)
    → length items ≡ prefix_len test items
passed_all test items at past within passed =
    let end : length items ≡ at = omega arith in
    sym (passed ∙ ap (λ l. at + prefix_len test l) (drop_all _ _ past) ∙ no_further at ∙ sym end)
