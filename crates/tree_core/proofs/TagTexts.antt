-- The tags in a text, cut at the first byte that parts two.
use Rattle.std.proofs.Common.{◌≡◌, ◌<◌, ◌≤◌, ◌+◌, ℕ, suc, zero, Bool, true, false, cond, not, List, [], ◌∷◌, ◌++◌, inl, inr, length, get_or, take, drop, map, OnOk, None, Some, Result, Ok, Err, ◌==◌, refl, sym, ap, ◌∙◌, arith}
use Rattle.std.specs.Prelude.{nat_lt, position}
use Rattle.std.specs.List.{filter, position_or_len}
use Rattle.std.specs.Str.{IsCharBoundary, IsUtf8, trim}
use Rattle.std.proofs.lemmas.Bool.{ltb-false}
use Rattle.std.proofs.lemmas.Bool.Decides.{Decides-eqb}
use Rattle.std.proofs.lemmas.List.{append_assoc}
use Rattle.std.proofs.lemmas.List.Quantifiers.{position-Some}
use Rattle.std.proofs.lemmas.Str.{IsCharBoundary-after_ascii, IsCharBoundary-before_ascii}
use Rattle.vault_model.proofs.Tests.{decide, or_cases}
use Rattle.tree_core.proofs.Options.{never}
use Rattle.tree_core.specs.Tags.{before_first, has_bytes, parts_tags, tag_texts, tags_in}

-- ---- a text in which nothing parts tags

far : (text : List ℕ) → position parts_tags text ≡ None → length text ≤ position_or_len parts_tags text
far text none = elim (decide (nat_lt (position_or_len parts_tags text) (length text))) [
  | inl less ↦ never (position_or_len parts_tags text) (sym none ∙ ap (λ b. cond b (Some (position_or_len parts_tags text)) None) less)
  | inr not_less ↦ ltb-false (position_or_len parts_tags text) (length text) not_less
]

whole : (text : List ℕ) → length text ≤ position_or_len parts_tags text → tag_texts text ≡ text ∷ []
whole [] h = refl
whole (b ∷ bs) h = of (whole bs) (parts_tags b) refl
  where
    of : (length bs ≤ position_or_len parts_tags bs → tag_texts bs ≡ bs ∷ []) → (c : Bool) → parts_tags b ≡ c → tag_texts (b ∷ bs) ≡ (b ∷ bs) ∷ []
    of rest true p =
        let none : position_or_len parts_tags (b ∷ bs) ≡ 0 = ap (λ c. cond (not c) (1 + position_or_len parts_tags bs) 0) p in
        absurd (omega (arith, h, none))
    of rest false p =
        let more : position_or_len parts_tags (b ∷ bs) ≡ 1 + position_or_len parts_tags bs = ap (λ c. cond (not c) (1 + position_or_len parts_tags bs) 0) p in
        ap (λ c. cond c ([] ∷ tag_texts bs) (before_first b (tag_texts bs))) p ∙ ap (before_first b) (rest (omega (arith, h, more)))

pub one_text : (text : List ℕ) → position parts_tags text ≡ None → tag_texts text ≡ text ∷ []
one_text text none = whole text (far text none)

-- ---- a text that is cut

cut_at : (text : List ℕ) (at : ℕ) → at < length text → parts_tags (get_or text at 0) ≡ true → ((k : ℕ) → k < at → parts_tags (get_or text k 0) ≡ false)
    → tag_texts text ≡ take at text ∷ tag_texts (drop (at + 1) text)
cut_at [] at less here before = absurd (omega (arith, less))
cut_at (b ∷ bs) zero less here before = ap (λ c. cond c ([] ∷ tag_texts bs) (before_first b (tag_texts bs))) here
cut_at (b ∷ bs) (suc at) less here before =
    let next : at + 1 ≡ suc at = omega arith in
    let later : suc (suc at) ≡ suc at + 1 = omega arith in
    ap (λ c. cond c ([] ∷ tag_texts bs) (before_first b (tag_texts bs))) (before 0 (omega arith))
    ∙ ap (before_first b) (cut_at bs at (omega (arith, less)) here (λ k small. before (suc k) (omega (arith, small))))
    ∙ ap (λ n. (b ∷ take at bs) ∷ tag_texts (drop n bs)) next
    ∙ ap (λ n. (b ∷ take at bs) ∷ tag_texts (drop n (b ∷ bs))) later

pub cut_text : (text : List ℕ) (at : ℕ) → position parts_tags text ≡ Some at → tag_texts text ≡ take at text ∷ tag_texts (drop (at + 1) text)
cut_text text at is =
    let found = position-Some parts_tags text at 0 is in
    cut_at text at found.0 found.1 found.2

-- ---- the tags in it

-- the tag that a text is but for white space
abbrev pub trimmed : List ℕ → List (List ℕ)
trimmed text = filter has_bytes (trim text ∷ [])

one_more : (text : List ℕ) (tags : List (List ℕ)) → filter has_bytes (trim text ∷ tags) ≡ trimmed text ++ filter has_bytes tags
one_more text tags = elim (has_bytes (trim text)) as (λ c. cond c (trim text ∷ filter has_bytes tags) (filter has_bytes tags) ≡ cond c (trim text ∷ []) [] ++ filter has_bytes tags) [
  | true ↦ refl
  | false ↦ refl
]

pub last_tag : (text : List ℕ) → position parts_tags text ≡ None → tags_in text ≡ trimmed text
last_tag text none = ap (λ texts. filter has_bytes (map trim texts)) (one_text text none)

pub next_tag : (text : List ℕ) (at : ℕ) → position parts_tags text ≡ Some at → tags_in text ≡ trimmed (take at text) ++ tags_in (drop (at + 1) text)
next_tag text at is =
    ap (λ texts. filter has_bytes (map trim texts)) (cut_text text at is)
    ∙ one_more (take at text) (map trim (tag_texts (drop (at + 1) text)))

-- some tags were put after others, and those in a rest are still to be
pub tags_on : (old so_far later : List (List ℕ)) (all text : List ℕ) (at : ℕ) → position parts_tags text ≡ Some at → later ≡ so_far ++ trimmed (take at text)
    → so_far ++ tags_in text ≡ old ++ tags_in all → later ++ tags_in (drop (at + 1) text) ≡ old ++ tags_in all
tags_on old so_far later all text at is put h =
    ap (λ tags. tags ++ tags_in (drop (at + 1) text)) put
    ∙ append_assoc so_far (trimmed (take at text)) (tags_in (drop (at + 1) text))
    ∙ ap (λ tags. so_far ++ tags) (sym (next_tag text at is))
    ∙ h

-- the last of them were put after the others
pub tags_end : {E : Type 0} (o : Result (Unit {0}) E) (old so_far later : List (List ℕ)) (all text : List ℕ) → position parts_tags text ≡ None
    → so_far ++ tags_in text ≡ old ++ tags_in all → OnOk o (later ≡ so_far ++ trimmed text) → OnOk o (later ≡ old ++ tags_in all)
tags_end (Ok u) old so_far later all text none h put = put ∙ ap (λ tags. so_far ++ tags) (sym (last_tag text none)) ∙ h
tags_end (Err e) old so_far later all text none h put = tt

-- ---- where a text may be cut

small : (b : ℕ) → parts_tags b ≡ true → b < 128
small b is = elim (or_cases (b == 59) (b == 44) is) [
  | inl semicolon ↦ let same = (Decides-eqb b 59).0 semicolon in omega (arith, same)
  | inr comma ↦ let same = (Decides-eqb b 44).0 comma in omega (arith, same)
]

pub cut_before : (text : List ℕ) (at : ℕ) → position parts_tags text ≡ Some at → IsCharBoundary text at
cut_before text at is =
    let found = position-Some parts_tags text at 0 is in
    IsCharBoundary-before_ascii text at found.0 (small (get_or text at 0) found.1)

pub cut_after : (text : List ℕ) (at : ℕ) → IsUtf8 text → position parts_tags text ≡ Some at → IsCharBoundary text (at + 1)
cut_after text at utf8 is =
    let found = position-Some parts_tags text at 0 is in
    IsCharBoundary-after_ascii text at utf8 found.0 (small (get_or text at 0) found.1)

pub shorter : (text : List ℕ) (at : ℕ) → position parts_tags text ≡ Some at → at < length text
shorter text at is = (position-Some parts_tags text at 0 is).0
