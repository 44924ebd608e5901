-- The digits of a character's number in a reference.
use Rattle.std.proofs.Common.{◌≡◌, ℕ, ◌+◌, ◌*◌, ◌<◌, ◌≤◌, Bool, true, false, cond, eqb, leb, ltb, ◌&&◌, List, [], ◌∷◌, refl, ap, sym, ◌∙◌, arith, true≢false, eqb-true, lt-ltb}
use Rattle.std.proofs.lemmas.Bool.{false_from_ne_true}
use Rattle.std.proofs.lemmas.Bool.Decides.{nat_tests}
use Rattle.markup_grammar.specs.Answers.{form}
use Rattle.markup_grammar.specs.Bytes.{is_digit, is_hex_digit, digit_value}
use Rattle.markup_grammar.specs.Machine.{Ref, decimal_at, hexadecimal_at, RefTurn, ref_ends, ref_off, ref_step, number_on, number_ends, verdict, on}
use Rattle.markup_scanner.specs.Left.{answers_at, StandsAt}
use Rattle.markup_scanner.specs.Numbers.{radix_of, is_digit_of, is_character, first_of, digits_of, number_at, IsBaseGiven}
use Rattle.markup_scanner.specs.Scans.{Host, of_run, of_value, host_begin, host_state, host_reference}
use Rattle.markup_scanner.specs.declared.reference.Base.{Base}
use Rattle.markup_scanner.specs.declared.reference.Base.TheVariants.{Decimal, Hexadecimal}
use Rattle.markup_scanner.proofs.Steps.{left_on, left_off, host_step, host_turn, other_byte}

-- a byte that passes a test is not one that fails it
pub differ : (test : ℕ → Bool) (b c : ℕ) → test b ≡ true → test c ≡ false → eqb b c ≡ false
differ test b c holds fails =
    false_from_ne_true (eqb b c) (λ same. true≢false (sym holds ∙ (ap test (eqb-true b c same) ∙ fails)))

digit_not_semicolon : is_digit 59 ≡ false
unfolding is_digit
digit_not_semicolon = refl

digit_not_x : is_digit 120 ≡ false
unfolding is_digit
digit_not_x = refl

hex_not_semicolon : is_hex_digit 59 ≡ false
unfolding is_hex_digit is_digit
hex_not_semicolon = refl

-- a digit of either base is one of the greater
pub digit_is_hex : (base : Base) (b : ℕ) → is_digit_of base b ≡ true → is_hex_digit b ≡ true
unfolding is_hex_digit
digit_is_hex Decimal b holds = rw holds refl
digit_is_hex Hexadecimal b holds = holds

zero_times : (n d : ℕ) → d ≡ 0 * n + d
zero_times n d = omega arith

-- one digit more
digit_step : (base : Base) (t : Bool) (value b : ℕ) → is_digit_of base b ≡ true → (t ≡ false → value ≡ 0) → ref_step (cond t (digits_of base value) (first_of base)) b ≡ number_on (digits_of base) (value * radix_of base + digit_value b)
digit_step Decimal true value b holds first = rw (differ is_digit b 59 holds digit_not_semicolon, holds) refl
digit_step Decimal false value b holds first =
    rw (differ is_digit b 120 holds digit_not_x, holds) (rw (first refl) (ap (λ v. number_on decimal_at v) (zero_times 10 (digit_value b))))
digit_step Hexadecimal true value b holds first = rw (differ is_hex_digit b 59 holds hex_not_semicolon, holds) refl
digit_step Hexadecimal false value b holds first =
    rw holds (rw (first refl) (ap (λ v. number_on hexadecimal_at v) (zero_times 16 (digit_value b))))

by_semicolon : (u : Bool) (value : ℕ) (more : RefTurn) → more ≡ ref_off → cond u (number_ends value) more ≡ cond (u && (true && is_character value)) ref_ends ref_off
by_semicolon true value more e = refl
by_semicolon false value more e = e

by_none : (u v : Bool) → ref_off ≡ cond (u && (false && v)) ref_ends ref_off
by_none true v = refl
by_none false v = refl

abbrev is_decimal : Base → Bool
is_decimal Decimal = true
is_decimal Hexadecimal = false

-- no digit
other_step : (base : Base) (t : Bool) (value b : ℕ) → is_digit_of base b ≡ false → (t ≡ false → cond (is_decimal base) (eqb b 120 ≡ false) (Unit {0})) → ref_step (cond t (digits_of base value) (first_of base)) b ≡ cond (eqb b 59 && (t && is_character value)) ref_ends ref_off
other_step Decimal true value b fails first = by_semicolon (eqb b 59) value (cond (is_digit b) (number_on decimal_at (value * 10 + digit_value b)) ref_off) (rw fails refl)
other_step Decimal false value b fails first = rw (first refl, fails) (by_none (eqb b 59) (is_character value))
other_step Hexadecimal true value b fails first = by_semicolon (eqb b 59) value (cond (is_hex_digit b) (number_on hexadecimal_at (value * 16 + digit_value b)) ref_off) (rw fails refl)
other_step Hexadecimal false value b fails first = rw fails (by_none (eqb b 59) (is_character value))

zero_there : (t : Bool) (begin place value : ℕ) → ltb begin place ≡ t → begin ≤ place → (place ≡ begin → value ≡ 0) → t ≡ false → value ≡ 0
zero_there t begin place value is le zero e =
    let low : ltb begin place ≡ false = is ∙ e in
    zero (grind (arith, nat_tests))

next_number : (text : List ℕ) (h : Host) (base : Base) (begin place value : ℕ) → begin ≤ place → answers_at text (host_reference text h (digits_of base value) (place + 1)) (place + 1) ≡ answers_at text (host_reference text h (number_at base begin (place + 1) value) (place + 1)) (place + 1)
next_number text h base begin place value le =
    let more : ltb begin (place + 1) ≡ true = lt-ltb begin (place + 1) (omega arith) in
    rw more refl

-- past a digit, within the greatest number
pub number_goes : (text : List ℕ) (h : Host) (base : Base) (begin place value b next : ℕ) → host_begin h ≤ begin → begin ≤ place → (place ≡ begin → value ≡ 0) → StandsAt text place b → is_digit_of base b ≡ true → next ≡ value * radix_of base + digit_value b → next ≤ 0x10FFFF → answers_at text (host_reference text h (number_at base begin place value) place) place ≡ answers_at text (host_reference text h (number_at base begin (place + 1) next) (place + 1)) (place + 1)
number_goes text h base begin place value b next kept le zero stand holds is low =
    let above : host_begin h ≤ place = omega arith in
    let within : leb (value * radix_of base + digit_value b) 0x10FFFF ≡ true = rw (← is) (let e : leb next 0x10FFFF ≡ true = grind (arith, nat_tests) in e) in
    let turn : host_turn text h (place + 1) (number_on (digits_of base) (value * radix_of base + digit_value b)) ≡ on [] (host_reference text h (digits_of base next) (place + 1)) = rw within (ap (λ v. on [] (host_reference text h (digits_of base v) (place + 1))) (sym is)) in
    left_on text (host_reference text h (number_at base begin place value) place) (host_reference text h (digits_of base next) (place + 1)) place b [] stand
    (host_step text h (number_at base begin place value) place b above stand
    ∙ (ap (λ t. host_turn text h (place + 1) t) (digit_step base (ltb begin place) value b holds (zero_there (ltb begin place) begin place value refl le zero))
    ∙ turn))
    ∙ next_number text h base begin place next le

-- past the greatest number
pub number_past : (text : List ℕ) (h : Host) (base : Base) (begin place value b next : ℕ) → host_begin h ≤ begin → begin ≤ place → (place ≡ begin → value ≡ 0) → StandsAt text place b → is_digit_of base b ≡ true → next ≡ value * radix_of base + digit_value b → 0x10FFFF < next → answers_at text (host_reference text h (number_at base begin place value) place) place ≡ form place ∷ []
number_past text h base begin place value b next kept le zero stand holds is high =
    let above : host_begin h ≤ place = omega arith in
    let within : leb (value * radix_of base + digit_value b) 0x10FFFF ≡ false = rw (← is) (let e : leb next 0x10FFFF ≡ false = grind (arith, nat_tests) in e) in
    left_off text (host_reference text h (number_at base begin place value) place) place b stand
    (host_step text h (number_at base begin place value) place b above stand
    ∙ (ap (λ t. host_turn text h (place + 1) t) (digit_step base (ltb begin place) value b holds (zero_there (ltb begin place) begin place value refl le zero))
    ∙ rw within refl))

-- an `x` that stands there has been read
given_there : (base : Base) (text : List ℕ) (begin place b : ℕ) → IsBaseGiven base text begin → begin ≤ place → StandsAt text place b → ltb begin place ≡ false → cond (is_decimal base) (eqb b 120 ≡ false) (Unit {0})
given_there Decimal text begin place b given le stand e =
    let same : place ≡ begin = grind (arith, nat_tests) in
    other_byte text place b 120 stand (rw same given)
given_there Hexadecimal text begin place b given le stand e = tt

other_turn : (text : List ℕ) (h : Host) (base : Base) (begin place value b : ℕ) → host_begin h ≤ begin → begin ≤ place → IsBaseGiven base text begin → StandsAt text place b → is_digit_of base b ≡ false → verdict (host_reference text h (number_at base begin place value) place) place ≡ form place → (ends : Bool) → ends ≡ (eqb b 59 && (ltb begin place && is_character value)) → answers_at text (host_reference text h (number_at base begin place value) place) place ≡ cond ends (answers_at text (host_state text h (place + 1)) (place + 1)) (form place ∷ [])
other_turn text h base begin place value b kept le given stand fails v true e =
    let above : host_begin h ≤ place = omega arith in
    left_on text (host_reference text h (number_at base begin place value) place) (host_state text h (place + 1)) place b [] stand
    (host_step text h (number_at base begin place value) place b above stand
    ∙ (ap (λ t. host_turn text h (place + 1) t) (other_step base (ltb begin place) value b fails (given_there base text begin place b given le stand))
    ∙ rw (← e) refl))
other_turn text h base begin place value b kept le given stand fails v false e =
    let above : host_begin h ≤ place = omega arith in
    left_off text (host_reference text h (number_at base begin place value) place) place b stand
    (host_step text h (number_at base begin place value) place b above stand
    ∙ (ap (λ t. host_turn text h (place + 1) t) (other_step base (ltb begin place) value b fails (given_there base text begin place b given le stand))
    ∙ rw (← e) refl))

-- a text that ends in a reference is refused at its end
pub reference_ends : (text : List ℕ) (h : Host) (r : Ref) (at : ℕ) → verdict (host_reference text h r at) at ≡ form at
reference_ends text (of_run place name names) r at = refl
reference_ends text (of_value quote place name from names) r at = refl

-- past another byte, which ends the number or is refused
pub number_ends_there : (text : List ℕ) (h : Host) (base : Base) (begin place value b : ℕ) (ends : Bool) → host_begin h ≤ begin → begin ≤ place → IsBaseGiven base text begin → StandsAt text place b → is_digit_of base b ≡ false → ends ≡ (eqb b 59 && (ltb begin place && is_character value)) → answers_at text (host_reference text h (number_at base begin place value) place) place ≡ cond ends (answers_at text (host_state text h (place + 1)) (place + 1)) (form place ∷ [])
number_ends_there text h base begin place value b ends kept le given stand fails e =
    other_turn text h base begin place value b kept le given stand fails (reference_ends text h (number_at base begin place value) place) ends e
