-- A text that is cut into tags is none of them, which are all shorter.
use Rattle.std.proofs.Common.{◌≡◌, ◌<◌, ◌≤◌, ◌+◌, ◌==◌, ◌&&◌, ℕ, suc, zero, true, false, cond, List, [], ◌∷◌, length, take, drop, map, length-append, length-drop, length-take, Option, None, Some, refl, sym, ap, subst, ◌∙◌, arith, true≢false}
use Rattle.std.specs.Prelude.{nat_eq, position}
use Rattle.std.specs.Char.{encode_utf8, is_whitespace}
use Rattle.std.specs.List.{filter}
use Rattle.std.specs.Str.{IsUtf8, all_scalars, bytes_eq, chars, drop_trailing_whitespace, encode_utf8_all, skip_leading_whitespace, trim, trim_end, trim_start}
use Rattle.std.proofs.lemmas.Str.{IsUtf8-drop, IsUtf8-take, chars-encodes, encodes-chars, scalars-chars}
use Rattle.vault_model.proofs.Tests.{and_true}
use Rattle.tree_core.proofs.TagTexts.{cut_after, cut_before, cut_text, last_tag, one_text, shorter}
use Rattle.tree_core.specs.Tags.{has_bytes, is_only, is_tag, parts_tags, tag_texts, tags_in}

-- ---- a text without white space around it is not longer

skip_short : (cs : List ℕ) → length (encode_utf8_all (skip_leading_whitespace cs)) ≤ length (encode_utf8_all cs)
skip_short [] = omega arith
skip_short (c ∷ cs) =
    let rest = skip_short cs in
    let longer = length-append (encode_utf8 c) (encode_utf8_all cs) in
    elim (is_whitespace c) as (λ b. length (encode_utf8_all (cond b (skip_leading_whitespace cs) (c ∷ cs))) ≤ length (encode_utf8_all (c ∷ cs))) [
      | true ↦ omega (arith, rest, longer)
      | false ↦ omega arith
    ]

skip_scalars : (cs : List ℕ) → all_scalars cs ≡ true → all_scalars (skip_leading_whitespace cs) ≡ true
skip_scalars [] h = h
skip_scalars (c ∷ cs) h =
    let rest = skip_scalars cs (and_true _ (all_scalars cs) h).1 in
    elim (is_whitespace c) as (λ b. all_scalars (cond b (skip_leading_whitespace cs) (c ∷ cs)) ≡ true) [
      | true ↦ rest
      | false ↦ h
    ]

drop_short : (cs : List ℕ) → length (encode_utf8_all (drop_trailing_whitespace cs)) ≤ length (encode_utf8_all cs)
drop_short [] = omega arith
drop_short (c ∷ cs) =
    let rest = drop_short cs in
    let longer = length-append (encode_utf8 c) (encode_utf8_all cs) in
    let kept = length-append (encode_utf8 c) (encode_utf8_all (drop_trailing_whitespace cs)) in
    elim (is_whitespace c && length (drop_trailing_whitespace cs) == 0) as (λ b. length (encode_utf8_all (cond b [] (c ∷ drop_trailing_whitespace cs))) ≤ length (encode_utf8_all (c ∷ cs))) [
      | true ↦ omega arith
      | false ↦ omega (arith, rest, longer, kept)
    ]

trim_short : (text : List ℕ) → IsUtf8 text → length (trim text) ≤ length text
unfolding trim_start trim_end
trim_short text utf8 =
    let cs = chars text in
    let middle = skip_leading_whitespace cs in
    let back = chars-encodes middle (skip_scalars cs (scalars-chars text utf8)) in
    let is = ap (λ ds. length (encode_utf8_all (drop_trailing_whitespace ds))) back in
    let all = ap length (encodes-chars text utf8) in
    omega (arith, is, drop_short middle, skip_short cs, all)

-- ---- all tags are shorter than a number

abbrev Below : ℕ → List (List ℕ) → Type 0
Below n [] = Unit {0}
Below n (text ∷ texts) = (length text < n) × Below n texts

texts_below : (fuel n : ℕ) (text : List ℕ) → length text < fuel → length text < n → IsUtf8 text → Below n (map trim (tag_texts text))
texts_below zero n text few less utf8 = absurd (omega (arith, few))
texts_below (suc fuel) n text few less utf8 = of (texts_below fuel n) (position parts_tags text) refl
  where
    of : ((rest : List ℕ) → length rest < fuel → length rest < n → IsUtf8 rest → Below n (map trim (tag_texts rest)))
        → (found : Option ℕ) → position parts_tags text ≡ found → Below n (map trim (tag_texts text))
    of below None is =
        let short = trim_short text utf8 in
        subst (λ texts. Below n (map trim texts)) (sym (one_text text is)) (omega (arith, short, less), tt)
    of below (Some at) is =
        let front = IsUtf8-take text at utf8 (cut_before text at is) in
        let later = IsUtf8-drop text (at + 1) utf8 (cut_after text at utf8 is) in
        let within = shorter text at is in
        let short = trim_short (take at text) front in
        let cut = length-take at text in
        let left = length-drop (at + 1) text in
        subst (λ texts. Below n (map trim texts)) (sym (cut_text text at is))
        (omega (arith, short, cut, within, less), below (drop (at + 1) text) (omega (arith, left, within, few)) (omega (arith, left, within, less)) later)

filter_below : (n : ℕ) (texts : List (List ℕ)) → Below n texts → Below n (filter has_bytes texts)
filter_below n [] h = tt
filter_below n (text ∷ texts) h =
    let rest = filter_below n texts h.1 in
    elim (has_bytes text) as (λ b. Below n (cond b (text ∷ filter has_bytes texts) (filter has_bytes texts))) [
      | true ↦ (h.0, rest)
      | false ↦ rest
    ]

differ : (xs ys : List ℕ) → length ys < length xs → bytes_eq xs ys ≡ false
differ [] ys less = absurd (omega (arith, less))
differ (x ∷ xs) [] less = refl
differ (x ∷ xs) (y ∷ ys) less =
    ap (λ b. nat_eq x y && b) (differ xs ys (omega (arith, less)))
    ∙ elim (nat_eq x y) as (λ b. (b && false) ≡ false) [
      | true ↦ refl
      | false ↦ refl
    ]

none_only : (text : List ℕ) (tags : List (List ℕ)) → Below (length text) tags → is_only text tags ≡ false
none_only text [] h = refl
none_only text (tag ∷ []) h = differ text tag h.0
none_only text (tag ∷ next ∷ tags) h = refl

-- ---- which text is a tag

pub cut_no_tag : (text : List ℕ) (at : ℕ) → IsUtf8 text → position parts_tags text ≡ Some at → is_tag text ≡ false
cut_no_tag text at utf8 is =
    let front = IsUtf8-take text at utf8 (cut_before text at is) in
    let later = IsUtf8-drop text (at + 1) utf8 (cut_after text at utf8 is) in
    let within = shorter text at is in
    let short = trim_short (take at text) front in
    let cut = length-take at text in
    let left = length-drop (at + 1) text in
    none_only text (tags_in text) (filter_below (length text) (map trim (tag_texts text))
    (subst (λ texts. Below (length text) (map trim texts)) (sym (cut_text text at is))
    (omega (arith, short, cut, within), texts_below (suc (length (drop (at + 1) text))) (length text) (drop (at + 1) text) (omega arith) (omega (arith, left, within)) later)))

only_trimmed : (text tag : List ℕ) → (length text == 0) ≡ false → is_only text (filter has_bytes (tag ∷ [])) ≡ bytes_eq text tag
only_trimmed [] tag some = absurd (true≢false some)
only_trimmed (b ∷ bs) [] some = refl
only_trimmed (b ∷ bs) (c ∷ cs) some = refl

pub whole_tag : (text : List ℕ) → position parts_tags text ≡ None → (length text == 0) ≡ false → is_tag text ≡ bytes_eq text (trim text)
whole_tag text none some = ap (is_only text) (last_tag text none) ∙ only_trimmed text (trim text) some
