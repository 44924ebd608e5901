-- A text's padding is known by its last byte.
use Rattle.std.proofs.Common.{◌≡◌, ℕ, ◌+◌, ◌-◌, ◌%◌, ◌<◌, ◌≤◌, List, length, take, drop, replicate, refl, sym, ◌∙◌, ap, subst, arith, Bool, true, false, cond, Option, Some, None, Result, Ok, Err, IfOk, OnErr, get_or, length-append, length-drop}
use Rattle.std.specs.Prelude.{nat_lt, bytes_eq, slice_index, ◌==◌}
use Rattle.std.proofs.lemmas.Bool.{eq-eqb, eqb-true, lt-ltb, ltb-false, ltb-true}
use Rattle.std.proofs.lemmas.Slice.Eq.{bytes_eq-Decides}
use Rattle.std.proofs.lemmas.Grind.{same_number_lists}
use Rattle.std.proofs.lemmas.List.{get_or-drop, get_or-replicate, get_or_past, length-replicate, drop_at, take_at}
use Rattle.block_core.specs.Padding.{IsBeforePadding, IsPadded, padded, padding_count, text_before, unpadded}

-- the padding is as its last byte says
abbrev is_filled : List ℕ → Bool
is_filled text = bytes_eq (drop (length text - padding_count text) text) (replicate (padding_count text) (padding_count text))

abbrev by_tests : List ℕ → Bool → Bool → Bool → Bool → Option (List ℕ)
by_tests text whole some few filled =
    cond whole (cond some (cond few (cond filled (Some (take (length text - padding_count text) text)) None) None) None) None

tested : (text : List ℕ) (whole some few filled : Bool) → (length text % 16 == 0) ≡ whole → nat_lt 0 (padding_count text) ≡ some
    → nat_lt (padding_count text) 17 ≡ few → is_filled text ≡ filled → unpadded text ≡ by_tests text whole some few filled
unfolding unpadded
tested text whole some few filled a b c d =
    ap (λ (t : Bool). by_tests text t (nat_lt 0 (padding_count text)) (nat_lt (padding_count text) 17) (is_filled text)) a
    ∙ ap (λ (t : Bool). by_tests text whole t (nat_lt (padding_count text) 17) (is_filled text)) b
    ∙ ap (λ (t : Bool). by_tests text whole some t (is_filled text)) c
    ∙ ap (λ (t : Bool). by_tests text whole some few t) d

-- a right padding has the length that its last byte says
padding_count-IsPadded : (text : List ℕ) (n : ℕ) → IsPadded text n → padding_count text ≡ length text - n
padding_count-IsPadded text n p = let some = p.some in p.filled (length text - 1) (omega (arith, some)) (omega (arith, some))

pub unpadded-IsPadded : (text : List ℕ) (n : ℕ) → IsPadded text n → unpadded text ≡ Some (take n text)
unpadded-IsPadded text n p =
    let some = p.some in
    let short = p.short in
    let count = padding_count-IsPadded text n p in
    let before : length text - padding_count text ≡ n = omega (arith, count, some) in
    let filling : drop (length text - padding_count text) text ≡ replicate (padding_count text) (padding_count text) =
    ap (λ (k : ℕ). drop k text) before
    ∙ same_number_lists (drop n text) (replicate (padding_count text) (padding_count text))
    (length-drop n text ∙ sym count ∙ sym (length-replicate (padding_count text) (padding_count text)))
    (λ k h. get_or-drop n text k 0 ∙ p.filled (n + k) (omega arith) (omega (arith, h, length-drop n text)) ∙ sym count
    ∙ sym (get_or-replicate (padding_count text) k (padding_count text) 0 (omega (arith, h, length-drop n text, count)))) in
    tested text true true true true (eq-eqb (length text % 16) 0 p.whole) (lt-ltb 0 (padding_count text) (omega (arith, count, some)))
    (lt-ltb (padding_count text) 17 (omega (arith, count, short))) ((bytes_eq-Decides _ _).1 filling)
    ∙ ap (λ (k : ℕ). Some (take k text)) before

-- where the tests pass the padding is right
module _ (text : List ℕ) (whole : length text % 16 ≡ 0) (some : 0 < padding_count text) (few : padding_count text < 17)
    (filling : drop (length text - padding_count text) text ≡ replicate (padding_count text) (padding_count text)) where
  not_empty : 0 < length text
  not_empty = by (nat_lt 0 (length text)) refl
    where
      by : (t : Bool) → nat_lt 0 (length text) ≡ t → 0 < length text
      by true e = ltb-true 0 (length text) e
      by false e =
          let none : length text ≤ 0 = ltb-false 0 (length text) e in
          let zero : padding_count text ≡ 0 = get_or_past text (length text - 1) 0 (omega (arith, none)) in
          absurd (omega (arith, zero, some))

  enough : padding_count text ≤ length text
  enough = let some_text = not_empty in omega (arith, some_text, few, whole)

  right : IsPadded text (length text - padding_count text)
  right =
      let room = enough in
      let some_text = not_empty in
      record {
        whole = whole;
        some = omega (arith, some, some_text);
        short = omega (arith, few);
        filled = λ i from to.
            let k = i - (length text - padding_count text) in
            let at : length text - padding_count text + k ≡ i = omega (arith, from) in
            let last : padding_count text ≡ length text - (length text - padding_count text) = omega (arith, room) in
            ap (λ (j : ℕ). slice_index text j) (sym at)
            ∙ sym (get_or-drop (length text - padding_count text) text k 0)
            ∙ ap (λ (xs : List ℕ). get_or xs k 0) filling
            ∙ get_or-replicate (padding_count text) k (padding_count text) 0 (omega (arith, from, to, room))
            ∙ last;
      }

pub unpadded_is : (text : List ℕ) → IsBeforePadding text (unpadded text)
unpadded_is text =
    by (length text % 16 == 0) (nat_lt 0 (padding_count text)) (nat_lt (padding_count text) 17) (is_filled text) refl refl refl refl
  where
    no : (x : Option (List ℕ)) → unpadded text ≡ x → x ≡ None → IsBeforePadding text (unpadded text)
    no x e none = subst (IsBeforePadding text) (sym (e ∙ none)) (λ n p. let h = sym (unpadded-IsPadded text n p) ∙ e ∙ none in cc)

    by : (whole some few filled : Bool) → (length text % 16 == 0) ≡ whole → nat_lt 0 (padding_count text) ≡ some
        → nat_lt (padding_count text) 17 ≡ few → is_filled text ≡ filled → IsBeforePadding text (unpadded text)
    by true true true true a b c d =
        let filling = (bytes_eq-Decides _ _).0 d in
        let pad = right text (eqb-true (length text % 16) 0 a) (ltb-true 0 (padding_count text) b) (ltb-true (padding_count text) 17 c) filling in
        subst (IsBeforePadding text) (sym (tested text true true true true a b c d)) (length text - padding_count text, (pad, refl))
    by false some few filled a b c d = no None (tested text false some few filled a b c d) refl
    by true false few filled a b c d = no None (tested text true false few filled a b c d) refl
    by true true false filled a b c d = no None (tested text true true false filled a b c d) refl
    by true true true false a b c d = no None (tested text true true true false a b c d) refl

-- where no padding is right there is no text before one
pub unpadded-None : (text : List ℕ) → ((n : ℕ) → IsPadded text n → ⊥) → unpadded text ≡ None
unpadded-None text not = by (unpadded text) (unpadded_is text)
  where
    by : (x : Option (List ℕ)) → IsBeforePadding text x → x ≡ None
    by None h = refl
    by (Some t) h = absurd (not h.0 h.1.0)

-- the length before a padding gives the text before it
pub unpadded-text_before : {E : Type 0} (text : List ℕ) (r : Result ℕ E) → IfOk r (λ n. IsPadded text n) → OnErr r ((n : ℕ) → IsPadded text n → ⊥)
    → unpadded text ≡ text_before text r
unpadded-text_before text (Ok n) ok err = unpadded-IsPadded text n ok
unpadded-text_before text (Err e) ok err = unpadded-None text err

-- ---- a text with its padding

pub IsPadded-padded : (text : List ℕ) → IsPadded (padded text) (length text)
IsPadded-padded text =
    let n = 16 - length text % 16 in
    let long : length (padded text) ≡ length text + n = length-append text (replicate n n) ∙ ap (λ (k : ℕ). length text + k) (length-replicate n n) in
    record {
      whole = omega (arith, long);
      some = omega (arith, long);
      short = omega (arith, long);
      filled = λ i from to.
          let k = i - length text in
          let at : length text + k ≡ i = omega (arith, from) in
          let count : n ≡ length (padded text) - length text = omega (arith, long) in
          ap (λ (j : ℕ). slice_index (padded text) j) (sym at)
          ∙ sym (get_or-drop (length text) (padded text) k 0)
          ∙ ap (λ (xs : List ℕ). get_or xs k 0) (drop_at text (replicate n n) (length text) refl)
          ∙ get_or-replicate n k n 0 (omega (arith, from, to, long))
          ∙ count;
    }

pub unpadded-padded : (text : List ℕ) → unpadded (padded text) ≡ Some text
unpadded-padded text =
    unpadded-IsPadded (padded text) (length text) (IsPadded-padded text)
    ∙ ap Some (take_at text (replicate (16 - length text % 16) (16 - length text % 16)) (length text) refl)

-- what comes before the right padding of a text has one value
pub unpadded-IsBeforePadding : (text : List ℕ) (x : Option (List ℕ)) → IsBeforePadding text x → unpadded text ≡ x
unpadded-IsBeforePadding text (Some front) h = unpadded-IsPadded text h.0 h.1.0 ∙ ap Some (sym h.1.1)
unpadded-IsBeforePadding text None h = unpadded-None text h
