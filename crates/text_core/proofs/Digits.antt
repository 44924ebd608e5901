-- The number that digits write, and when there is a character of that number.
use Rattle.std.proofs.Common.{◌≡◌, ℕ, ◌+◌, ◌*◌, ◌<◌, ◌≤◌, ◌&&◌, Bool, true, false, Option, Some, None, List, [], ◌∷◌, length, drop, get_or, refl, ap, sym, ◌∙◌, arith, drop-cons, cond, suc, true≢false}
use Rattle.std.proofs.lemmas.List.{drop_all}
use Rattle.std.proofs.Math.Nat.{le-mul_of_pos_right}
use Rattle.std.proofs.lemmas.Bool.{lt-ltb, ne_eqb}
use Rattle.std.proofs.lemmas.Bool.Decides.{nat_tests}
use Rattle.std.proofs.lemmas.List.Folds.{list_all_at}
use Rattle.std.specs.Char.{digit_value, is_digit, IsScalar}
use Rattle.std.specs.List.{list_all}
use Rattle.std.specs.Option.{SomeIff}
use Rattle.std.specs.Str.Parse.{digits_value, digits_value_after}
use lib.Utf8.{scalar}
use Rattle.markup_grammar.specs.Escapes.{character_by_number, character_of_reference, by_name, behind_hash}
use Rattle.text_core.specs.Fronts.{DiffersFirst}

abbrev digit_in : ℕ → ℕ → Bool
digit_in radix d = is_digit d radix

more : (n radix d : ℕ) → 2 ≤ radix → n ≤ n * radix + d
more n radix d some = omega (arith, le-mul_of_pos_right {m = radix} n (omega arith))

-- more digits make no number smaller
least : (radix n : ℕ) (digits : List ℕ) → 2 ≤ radix → n ≤ digits_value_after radix n digits
least radix n [] some = omega arith
least radix n (d ∷ digits) some = omega (arith, more n radix (digit_value d) some, least radix (n * radix + digit_value d) digits some)

no_scalar : (n : ℕ) → 0x10FFFF < n → scalar n ≡ false
no_scalar n high = grind (arith, nat_tests)

fails_second : (a b c : Bool) → b ≡ false → a && b && c ≡ false
fails_second true b c e = rw e refl
fails_second false b c e = refl

fails_third : (a b c : Bool) → c ≡ false → a && b && c ≡ false
fails_third true true c e = e
fails_third true false c e = refl
fails_third false b c e = refl

-- no digits
pub no_digits : (radix : ℕ) (digits : List ℕ) → length digits ≡ 0 → character_by_number radix digits ≡ None
unfolding character_by_number
no_digits radix [] e = refl
no_digits radix (d ∷ digits) e = absurd (omega arith)

-- what is no digit of the base
pub wrong_digit : (radix i : ℕ) (digits : List ℕ) → i < length digits → ¬ (digit_value (get_or digits i 0) < radix) → character_by_number radix digits ≡ None
unfolding character_by_number
wrong_digit radix i digits within wrong =
    rw (fails_second _ _ _ (list_all_at (λ d. is_digit d radix) digits i 0 within (grind (arith, nat_tests)))) refl

-- a number past the last character's
pub past_last : (radix i n : ℕ) (digits : List ℕ) → 2 ≤ radix → i < length digits
    → digits_value_after radix n (drop i digits) ≡ digits_value radix digits
    → 0x10FFFF < n * radix + digit_value (get_or digits i 0)
    → character_by_number radix digits ≡ None
unfolding character_by_number
past_last radix i n digits some within value high =
    let step : digits_value radix digits ≡ digits_value_after radix (n * radix + digit_value (get_or digits i 0)) (drop (suc i) digits) =
    sym value ∙ ap (digits_value_after radix n) (drop-cons digits i 0 within) in
    rw (fails_third _ _ _ (no_scalar (digits_value radix digits) (omega (arith, step, least radix (n * radix + digit_value (get_or digits i 0)) (drop (suc i) digits) some)))) refl

-- all digits, and their number
pub all_digits : (radix i n : ℕ) (digits : List ℕ) (r : Option ℕ) → 0 < length digits → length digits ≤ i
    → digits_value_after radix n (drop i digits) ≡ digits_value radix digits
    → list_all (λ d. is_digit d radix) (drop i digits) ≡ list_all (λ d. is_digit d radix) digits
    → SomeIff r (IsScalar n) n
    → r ≡ character_by_number radix digits
unfolding character_by_number
all_digits radix i n digits r some whole value all is =
    let none : drop i digits ≡ [] = drop_all i digits whole in
    let number : n ≡ digits_value radix digits = (rw none at value) in
    let digit : true ≡ list_all (λ d. is_digit d radix) digits = (rw none at all) in
    rw (lt-ltb 0 (length digits) some, ← digit, ← number) (by_scalar (scalar n) r is)
  where
    by_scalar : (t : Bool) (r : Option ℕ) → SomeIff r (t ≡ true) n → r ≡ cond t (Some n) None
    by_scalar true None is = absurd (is refl)
    by_scalar true (Some x) is = ap Some is.1
    by_scalar false None is = refl
    by_scalar false (Some x) is = absurd (true≢false (sym is.0))

-- a name that does not begin with `#`
pub no_hash : (name : List ℕ) → DiffersFirst 35 name → character_of_reference name ≡ by_name name
unfolding character_of_reference
no_hash [] other = refl
no_hash (b ∷ rest) other = rw (ne_eqb b 35 other) refl

-- `#x` and digits
pub hexadecimal : (name number digits : List ℕ) → name ≡ 35 ∷ number → number ≡ 120 ∷ digits → character_of_reference name ≡ character_by_number 16 digits
unfolding character_of_reference
hexadecimal name number digits e f = rw (e, f) refl

-- `#` and digits
pub decimal : (name number : List ℕ) → name ≡ 35 ∷ number → DiffersFirst 120 number → character_of_reference name ≡ character_by_number 10 number
unfolding character_of_reference
decimal name number e other = rw e (by_radix number other)
  where
    by_radix : (number : List ℕ) → DiffersFirst 120 number → behind_hash number ≡ character_by_number 10 number
    by_radix [] other = sym (no_digits 10 [] refl)
    by_radix (b ∷ rest) other = rw (ne_eqb b 120 other) refl
