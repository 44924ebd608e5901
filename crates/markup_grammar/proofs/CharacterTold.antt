-- A reference of the grammar stands for its character.
use Rattle.std.proofs.Common.{◌≡◌, ◌≢◌, ℕ, ◌+◌, ◌*◌, ◌<◌, inl, inr, Bool, true, false, ltb, List, [], ◌∷◌, ◌++◌, length, Some, refl, ap, sym, ◌∙◌, append_assoc, append-nil, arith, lt-ltb}
use Rattle.std.proofs.lemmas.Bool.Decides.{nat_tests}
use Rattle.std.specs.Char as std_char
use Rattle.std.specs.List.{list_all}
use Rattle.std.specs.Str.Parse.{digits_value_after}
use lib.Utf8.{encode, scalar}
use Rattle.markup_grammar.specs.Bytes.{is_digit, is_hex_digit, digit_value, AllAre}
use Rattle.markup_grammar.specs.Escapes as told
use Rattle.markup_grammar.specs.Escapes.{Place, unescaped, unescaped_from, character_of_reference, character_by_number, bytes_of, bytes_given, place_after}
use Rattle.markup_grammar.specs.References.{Reference, amp, lt, gt, quot, apos, decimal, hexadecimal, reference_body, number_from, IsScalar, IsReference, character}
use Rattle.markup_grammar.proofs.Classes.{digit_not_x, digit_not_semicolon, hex_not_semicolon}
use Rattle.markup_grammar.proofs.Steps.{differ}
use Rattle.markup_grammar.proofs.TagMeanings.{Avoids}

-- a digit is worth the same, and is one, for std
digit_worth : (b : ℕ) → is_digit b ≡ true → std_char.digit_value b ≡ digit_value b
unfolding is_digit digit_value
digit_worth b h = grind (arith, nat_tests)

digit_small : (b : ℕ) → is_digit b ≡ true → digit_value b < 10
unfolding is_digit digit_value
digit_small b h = grind (arith, nat_tests)

hex_worth : (b : ℕ) → is_hex_digit b ≡ true → std_char.digit_value b ≡ digit_value b
unfolding is_hex_digit is_digit digit_value
hex_worth b h = grind (arith, nat_tests)

pub hex_small : (b : ℕ) → is_hex_digit b ≡ true → digit_value b < 16
unfolding is_hex_digit is_digit digit_value
hex_small b h = grind (arith, nat_tests)

-- the number of digits
value_told : (test : ℕ → Bool) (base value : ℕ) (digits : List ℕ) → ((b : ℕ) → test b ≡ true → std_char.digit_value b ≡ digit_value b) → AllAre test digits → digits_value_after base value digits ≡ number_from base value digits
value_told test base value [] worth all = refl
value_told test base value (b ∷ digits) worth all =
    ap (λ d. digits_value_after base (value * base + d) digits) (worth b all.0) ∙ value_told test base (value * base + digit_value b) digits worth all.1

-- and all of them are digits
digits_pass : (test : ℕ → Bool) (base : ℕ) (digits : List ℕ) → ((b : ℕ) → test b ≡ true → std_char.digit_value b ≡ digit_value b) → ((b : ℕ) → test b ≡ true → digit_value b < base) → AllAre test digits → list_all (λ d. std_char.is_digit d base) digits ≡ true
digits_pass test base [] worth small all = refl
digits_pass test base (b ∷ digits) worth small all =
    rw (worth b all.0, lt-ltb (digit_value b) base (small b all.0)) (digits_pass test base digits worth small all.1)

scalar_told : (n : ℕ) → IsScalar n → scalar n ≡ true
scalar_told n (inl low) = grind (arith, nat_tests)
scalar_told n (inr (high, most)) = grind (arith, nat_tests)

numbered_told : (test : ℕ → Bool) (base : ℕ) (digits : List ℕ) → digits ≢ [] → ((b : ℕ) → test b ≡ true → std_char.digit_value b ≡ digit_value b) → ((b : ℕ) → test b ≡ true → digit_value b < base) → AllAre test digits → IsScalar (number_from base 0 digits) → character_by_number base digits ≡ Some (number_from base 0 digits)
unfolding character_by_number
numbered_told test base [] some worth small all is = absurd (some refl)
numbered_told test base (b ∷ digits) some worth small all is =
    let has : ltb 0 (length (b ∷ digits)) ≡ true = lt-ltb 0 (length (b ∷ digits)) (omega arith) in
    rw (has, digits_pass test base (b ∷ digits) worth small all, value_told test base 0 (b ∷ digits) worth all, scalar_told (number_from base 0 (b ∷ digits)) is) refl

-- a reference's body tells its character
referred_told : (r : Reference) → IsReference r → character_of_reference (reference_body r) ≡ Some (character r)
unfolding character_of_reference
referred_told amp is = refl
referred_told lt is = refl
referred_told gt is = refl
referred_told quot is = refl
referred_told apos is = refl
referred_told (decimal []) is = absurd (is.0 refl)
referred_told (decimal (b ∷ digits)) is =
    rw (differ is_digit b 120 is.1.0 digit_not_x) (numbered_told is_digit 10 (b ∷ digits) is.0 digit_worth digit_small is.1 is.2)
referred_told (hexadecimal digits) is = numbered_told is_hex_digit 16 digits is.0 hex_worth hex_small is.1 is.2

digits_end : (test : ℕ → Bool) (digits : List ℕ) → test 59 ≡ false → AllAre test digits → Avoids 59 digits
digits_end test [] fails all = tt
digits_end test (b ∷ digits) fails all = (differ test b 59 all.0 fails, digits_end test digits fails all.1)

body_ends : (r : Reference) → IsReference r → Avoids 59 (reference_body r)
body_ends amp is = (refl, (refl, (refl, tt)))
body_ends lt is = (refl, (refl, tt))
body_ends gt is = (refl, (refl, tt))
body_ends quot is = (refl, (refl, (refl, (refl, tt))))
body_ends apos is = (refl, (refl, (refl, (refl, tt))))
body_ends (decimal digits) is = (refl, digits_end is_digit digits digit_not_semicolon is.1)
body_ends (hexadecimal digits) is = (refl, (refl, digits_end is_hex_digit digits hex_not_semicolon is.1))

-- a byte of raw text
goes : (place : Place) (b : ℕ) (rest : List ℕ) → unescaped_from place (b ∷ rest) ≡ bytes_given place b ++ unescaped_from (place_after place b) rest
unfolding unescaped_from
goes place b rest = refl

body_goes : (acc body rest : List ℕ) → Avoids 59 body → unescaped_from (told.reference acc) (body ++ (59 ∷ rest)) ≡ bytes_of (character_of_reference (acc ++ body)) ++ unescaped rest
body_goes acc [] rest all =
    goes (told.reference acc) 59 rest ∙ ap (λ xs. bytes_of (character_of_reference xs) ++ unescaped rest) (sym (append-nil acc))
body_goes acc (b ∷ body) rest all =
    goes (told.reference acc) b (body ++ (59 ∷ rest))
    ∙ rw all.0 (body_goes (acc ++ b ∷ []) body rest all.1 ∙ ap (λ xs. bytes_of (character_of_reference xs) ++ unescaped rest) (append_assoc acc (b ∷ []) body))

-- a reference stands for the UTF-8 of its character
pub character_told : (r : Reference) (rest : List ℕ) → IsReference r → unescaped (38 ∷ (reference_body r ++ (59 ∷ rest))) ≡ encode (character r) ++ unescaped rest
character_told r rest is =
    goes told.plain 38 (reference_body r ++ (59 ∷ rest))
    ∙ (body_goes [] (reference_body r) rest (body_ends r is) ∙ ap (λ o. bytes_of o ++ unescaped rest) (referred_told r is))
