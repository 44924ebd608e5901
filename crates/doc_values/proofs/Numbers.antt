-- Numbers of digits that pass a bound.
use Rattle.std.proofs.Common.{◌≡◌, ℕ, suc, ◌+◌, ◌*◌, ◌-◌, ◌<◌, ◌≤◌, ◌&&◌, Bool, true, false, None, List, [], ◌∷◌, length, drop, get_or, refl, ap, sym, ◌∙◌, arith, drop-cons, leb}
use Rattle.std.proofs.lemmas.Bool.Decides.{nat_tests}
use Rattle.std.specs.Char.{digit_value, is_ascii_digit}
use Rattle.std.specs.Str.Parse.{digits_value, digits_value_after}
use Rattle.doc_forms.specs.Values.{digits_up_to, are_digits}

-- more digits make no number smaller
least : (n : ℕ) (digits : List ℕ) → n ≤ digits_value_after 10 n digits
least n [] = omega arith
least n (d ∷ digits) = omega (arith, least (n * 10 + digit_value d) digits)

-- what an ASCII digit is worth
pub digit_is : (b : ℕ) → is_ascii_digit b ≡ true → digit_value b ≡ b - 48
digit_is b h = grind (arith, nat_tests)

fails_second : (a b : Bool) → b ≡ false → a && b ≡ false
fails_second true b e = e
fails_second false b e = refl

not_within : (n most : ℕ) → most < n → leb n most ≡ false
not_within n most h = grind (arith, nat_tests)

-- digits that have passed the bound write no number within it
pub too_much : (most i n : ℕ) (digits : List ℕ) → i < length digits
    → digits_value_after 10 n (drop i digits) ≡ digits_value 10 digits
    → most < n * 10 + digit_value (get_or digits i 0)
    → digits_up_to most digits ≡ None
too_much most i n digits within value high =
    let step : digits_value 10 digits ≡ digits_value_after 10 (n * 10 + digit_value (get_or digits i 0)) (drop (suc i) digits) =
    sym value ∙ ap (digits_value_after 10 n) (drop-cons digits i 0 within) in
    rw (fails_second (are_digits digits) _ (not_within (digits_value 10 digits) most
    (omega (arith, step, least (n * 10 + digit_value (get_or digits i 0)) (drop (suc i) digits))))) refl
