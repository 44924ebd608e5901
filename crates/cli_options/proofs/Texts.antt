-- Texts that are kept by their places, and texts around `=`.
use Rattle.std.proofs.Common.{Bor, ◌≡◌, ◌≢◌, ◌<◌, arith, ℕ, zero, suc, Bool, cond, List, [], ◌∷◌, ◌++◌, length, get_or, map, slice_index_or, slice_set, Option, Some, None, refl, ap, ◌∙◌}
use Rattle.std.proofs.lemmas.Bool.{ne_eqb}
use Rattle.cli_options.specs.Prefixes.{after_sign, before_sign}
use Rattle.cli_options.specs.SaidWords.{text_seen}

-- A text at a place.
pub text_at : (given : List (Option (Bor (List ℕ)))) (i : ℕ)
    → text_seen (slice_index_or given i None) ≡ slice_index_or (map text_seen given) i None
text_at [] i = refl
text_at (x ∷ xs) zero = refl
text_at (x ∷ xs) (suc i) = text_at xs i

-- A text that is put at a place.
pub text_put : (given : List (Option (Bor (List ℕ)))) (i : ℕ) (x : Option (Bor (List ℕ)))
    → map text_seen (slice_set given i x) ≡ slice_set (map text_seen given) i (text_seen x)
text_put [] i x = refl
text_put (y ∷ ys) zero x = refl
text_put (y ∷ ys) (suc i) x = ap (λ ts. text_seen y ∷ ts) (text_put ys i x)

-- No byte is `=`.
abbrev pub LacksSign : List ℕ → Type 0
LacksSign text = (i : ℕ) → i < length text → get_or text i 0 ≢ 61

later : (b : ℕ) (bs : List ℕ) → LacksSign (b ∷ bs) → LacksSign bs
later b bs h i l = h (suc i) (omega (arith, l))

pub before_first_sign : (name value : List ℕ) → LacksSign name → before_sign (name ++ 61 ∷ value) ≡ name
before_first_sign [] value h = refl
before_first_sign (b ∷ bs) value h =
    ap (λ (same : Bool). cond same [] (b ∷ before_sign (bs ++ 61 ∷ value))) (ne_eqb b 61 (h 0 (omega arith)))
    ∙ ap (λ rest. b ∷ rest) (before_first_sign bs value (later b bs h))

pub after_first_sign : (name value : List ℕ) → LacksSign name → after_sign (name ++ 61 ∷ value) ≡ Some value
after_first_sign [] value h = refl
after_first_sign (b ∷ bs) value h =
    ap (λ (same : Bool). cond same (Some (bs ++ 61 ∷ value)) (after_sign (bs ++ 61 ∷ value))) (ne_eqb b 61 (h 0 (omega arith)))
    ∙ after_first_sign bs value (later b bs h)

pub before_no_sign : (text : List ℕ) → LacksSign text → before_sign text ≡ text
before_no_sign [] h = refl
before_no_sign (b ∷ bs) h =
    ap (λ (same : Bool). cond same [] (b ∷ before_sign bs)) (ne_eqb b 61 (h 0 (omega arith)))
    ∙ ap (λ rest. b ∷ rest) (before_no_sign bs (later b bs h))

pub after_no_sign : (text : List ℕ) → LacksSign text → after_sign text ≡ None
after_no_sign [] h = refl
after_no_sign (b ∷ bs) h =
    ap (λ (same : Bool). cond same (Some bs) (after_sign bs)) (ne_eqb b 61 (h 0 (omega arith)))
    ∙ after_no_sign bs (later b bs h)
