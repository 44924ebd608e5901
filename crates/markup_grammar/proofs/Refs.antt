-- References: what the reader goes over between a `&` and a `;` is a reference, and each reference it goes over.
use Rattle.std.proofs.Common.{◌≡◌, ℕ, ◌+◌, ◌*◌, ◌≤◌, inl, inr, Bool, true, ◌&&◌, ◌||◌, leb, ltb, List, [], ◌∷◌, ◌++◌, refl, ap, sym, subst, arith, ltb-true, le-leb}
use Rattle.markup_grammar.specs.Bytes.{is_digit, is_hex_digit, digit_value, AllAre}
use Rattle.markup_grammar.specs.References.{Reference, amp, lt, gt, quot, apos, decimal, hexadecimal, reference_body, number_from, IsScalar, IsReference}
use Rattle.markup_grammar.specs.Machine.{Ref, begun, after_a, due, hash, decimal_at, hash_x, hexadecimal_at, RefTurn, ref_on, ref_ends, ref_off, ref_step, number_on, number_ends}
use Rattle.markup_grammar.proofs.Classes.{digit_not_x, digit_not_semicolon, hex_not_semicolon, either}
use Rattle.markup_grammar.proofs.Edges.{by_test, by_byte}
use Rattle.markup_grammar.proofs.Steps.{differ}

-- what a turn leaves of the bytes that end a reference
abbrev pub turn_ends : RefTurn → List ℕ → (Ref → Type 0) → Type 0
turn_ends (ref_on r) bytes more = more r
turn_ends ref_ends bytes more = bytes ≡ []
turn_ends ref_off bytes more = ⊥

-- the bytes, of which the last one is the `;`, end a reference
abbrev pub RefEnds : List ℕ → Ref → Type 0
RefEnds [] r = ⊥
RefEnds (b ∷ bytes) r = turn_ends (ref_step r b) bytes (λ next. RefEnds bytes next)

decimal_grows : (value : ℕ) (digits : List ℕ) → value ≤ number_from 10 value digits
decimal_grows value [] = omega arith
decimal_grows value (b ∷ digits) =
    let further : value * 10 + digit_value b ≤ number_from 10 (value * 10 + digit_value b) digits = decimal_grows (value * 10 + digit_value b) digits in
    omega arith

hexadecimal_grows : (value : ℕ) (digits : List ℕ) → value ≤ number_from 16 value digits
hexadecimal_grows value [] = omega arith
hexadecimal_grows value (b ∷ digits) =
    let further : value * 16 + digit_value b ≤ number_from 16 (value * 16 + digit_value b) digits = hexadecimal_grows (value * 16 + digit_value b) digits in
    omega arith

scalar_most : (value number : ℕ) → value ≤ number → IsScalar number → value ≤ 0x10FFFF
scalar_most value number le (inl low) = omega arith
scalar_most value number le (inr (high, most)) = omega arith

-- the number of a character ends a reference
scalar_ends : (value : ℕ) → IsScalar value → number_ends value ≡ ref_ends
scalar_ends value (inl low) = grind arith
scalar_ends value (inr (high, most)) = grind arith

-- and no other does
scalar_of : (value : ℕ) → (ltb value 0xD800 || (leb 0xE000 value && leb value 0x10FFFF)) ≡ true → IsScalar value
scalar_of value h =
    either (ltb value 0xD800) (leb 0xE000 value && leb value 0x10FFFF) (λ low. inl (ltb-true value 0xD800 low))
    (λ high. inr (let least : 0xE000 ≤ value = grind arith in let most : value ≤ 0x10FFFF = grind arith in (least, most))) h

number_goes : (f : ℕ → Ref) (value : ℕ) → value ≤ 0x10FFFF → number_on f value ≡ ref_on (f value)
number_goes f value most = rw (le-leb value 0x10FFFF most) refl

-- digits, and then the `;`
decimal_ends : (value : ℕ) (digits : List ℕ) → AllAre is_digit digits → IsScalar (number_from 10 value digits) → RefEnds (digits ++ 59 ∷ []) (decimal_at value)
decimal_ends value [] all scalar = rw (scalar_ends value scalar) refl
decimal_ends value (b ∷ digits) all scalar =
    let digit : is_digit b ≡ true = all.0 in
    let most : value * 10 + digit_value b ≤ 0x10FFFF = scalar_most _ _ (decimal_grows (value * 10 + digit_value b) digits) scalar in
    rw (differ is_digit b 59 digit digit_not_semicolon, digit, le-leb (value * 10 + digit_value b) 0x10FFFF most) (decimal_ends (value * 10 + digit_value b) digits all.1 scalar)

hexadecimal_ends : (value : ℕ) (digits : List ℕ) → AllAre is_hex_digit digits → IsScalar (number_from 16 value digits) → RefEnds (digits ++ 59 ∷ []) (hexadecimal_at value)
hexadecimal_ends value [] all scalar = rw (scalar_ends value scalar) refl
hexadecimal_ends value (b ∷ digits) all scalar =
    let digit : is_hex_digit b ≡ true = all.0 in
    let most : value * 16 + digit_value b ≤ 0x10FFFF = scalar_most _ _ (hexadecimal_grows (value * 16 + digit_value b) digits) scalar in
    rw (differ is_hex_digit b 59 digit hex_not_semicolon, digit, le-leb (value * 16 + digit_value b) 0x10FFFF most) (hexadecimal_ends (value * 16 + digit_value b) digits all.1 scalar)

-- a reference's body and the `;` end it
pub reference_ends : (r : Reference) → IsReference r → RefEnds (reference_body r ++ 59 ∷ []) begun
reference_ends amp is = refl
reference_ends lt is = refl
reference_ends gt is = refl
reference_ends quot is = refl
reference_ends apos is = refl
reference_ends (decimal []) is = absurd (is.0 refl)
reference_ends (decimal (b ∷ digits)) is =
    let digit : is_digit b ≡ true = is.1.0 in
    let zero_less : 0 * 10 + digit_value b ≡ digit_value b = omega arith in
    let scalar : IsScalar (number_from 10 (digit_value b) digits) = let P : ℕ → Type 0 = λ n. IsScalar (number_from 10 n digits) in subst P zero_less is.2 in
    let most : digit_value b ≤ 0x10FFFF = scalar_most _ _ (decimal_grows (digit_value b) digits) scalar in
    rw (differ is_digit b 120 digit digit_not_x, digit, le-leb (digit_value b) 0x10FFFF most) (decimal_ends (digit_value b) digits is.1.1 scalar)
reference_ends (hexadecimal []) is = absurd (is.0 refl)
reference_ends (hexadecimal (b ∷ digits)) is =
    let digit : is_hex_digit b ≡ true = is.1.0 in
    let zero_less : 0 * 16 + digit_value b ≡ digit_value b = omega arith in
    let scalar : IsScalar (number_from 16 (digit_value b) digits) = let P : ℕ → Type 0 = λ n. IsScalar (number_from 16 n digits) in subst P zero_less is.2 in
    let most : digit_value b ≤ 0x10FFFF = scalar_most _ _ (hexadecimal_grows (digit_value b) digits) scalar in
    rw (digit, le-leb (digit_value b) 0x10FFFF most) (hexadecimal_ends (digit_value b) digits is.1.1 scalar)

-- what the bytes that end a reference are
abbrev pub Referred : List ℕ → Type 0
Referred bytes = (r : Reference) × IsReference r × (bytes ≡ reference_body r ++ 59 ∷ [])

-- the rest of a number's digits, and the `;`
abbrev pub Digits : (ℕ → Bool) → ℕ → ℕ → List ℕ → Type 0
Digits test base value bytes =
    (digits : List ℕ) × AllAre test digits × IsScalar (number_from base value digits) × (bytes ≡ digits ++ 59 ∷ [])

due_is : (bytes : List ℕ) (c : ℕ) (rest : List ℕ) → RefEnds bytes (due c rest) → bytes ≡ c ∷ rest
due_is [] c rest h = absurd h
due_is (b ∷ bytes) c [] h =
    by_byte (λ n t. turn_ends t bytes (λ next. RefEnds bytes next) → (n ∷ bytes ≡ c ∷ [])) b c ref_ends ref_off (λ e. ap (λ xs. c ∷ xs) e) (λ _ g. absurd g) h
due_is (b ∷ bytes) c (d ∷ rest) h =
    by_byte (λ n t. turn_ends t bytes (λ next. RefEnds bytes next) → (n ∷ bytes ≡ c ∷ d ∷ rest)) b c (ref_on (due d rest)) ref_off (λ g. ap (λ xs. c ∷ xs) (due_is bytes d rest g)) (λ _ g. absurd g) h

ends_is : (test : ℕ → Bool) (base value : ℕ) (bytes : List ℕ) → turn_ends (number_ends value) bytes (λ next. RefEnds bytes next) → Digits test base value (59 ∷ bytes)
ends_is test base value bytes =
    by_test (λ t. turn_ends t bytes (λ next. RefEnds bytes next) → Digits test base value (59 ∷ bytes)) (ltb value 0xD800 || (leb 0xE000 value && leb value 0x10FFFF)) ref_ends ref_off
    (λ h e. ([], tt, scalar_of value h, ap (λ xs. 59 ∷ xs) e)) (λ _ g. absurd g)

goes_is : (f : ℕ → Ref) (bytes : List ℕ) (value : ℕ) (A : Type 0) → (RefEnds bytes (f value) → A) → turn_ends (number_on f value) bytes (λ next. RefEnds bytes next) → A
goes_is f bytes value A further =
    by_test (λ t. turn_ends t bytes (λ next. RefEnds bytes next) → A) (leb value 0x10FFFF) (ref_on (f value)) ref_off (λ _. further) (λ _ g. absurd g)

decimal_is : (bytes : List ℕ) (value : ℕ) → RefEnds bytes (decimal_at value) → Digits is_digit 10 value bytes
decimal_is [] value h = absurd h
decimal_is (b ∷ bytes) value h =
    by_byte (λ n t. turn_ends t bytes (λ next. RefEnds bytes next) → Digits is_digit 10 value (n ∷ bytes)) b 59 (number_ends value) _ (ends_is is_digit 10 value bytes)
    (λ _. by_test (λ t. turn_ends t bytes (λ next. RefEnds bytes next) → Digits is_digit 10 value (b ∷ bytes)) (is_digit b) _ ref_off
    (λ digit. goes_is decimal_at bytes (value * 10 + digit_value b) (Digits is_digit 10 value (b ∷ bytes))
    (λ g. longer digit (decimal_is bytes (value * 10 + digit_value b) g)))
    (λ _ g. absurd g)) h
  where
    longer : is_digit b ≡ true → Digits is_digit 10 (value * 10 + digit_value b) bytes → Digits is_digit 10 value (b ∷ bytes)
    longer digit (digits, all, scalar, is) = (b ∷ digits, (digit, all), scalar, ap (λ xs. b ∷ xs) is)

hexadecimal_is : (bytes : List ℕ) (value : ℕ) → RefEnds bytes (hexadecimal_at value) → Digits is_hex_digit 16 value bytes
hexadecimal_is [] value h = absurd h
hexadecimal_is (b ∷ bytes) value h =
    by_byte (λ n t. turn_ends t bytes (λ next. RefEnds bytes next) → Digits is_hex_digit 16 value (n ∷ bytes)) b 59 (number_ends value) _ (ends_is is_hex_digit 16 value bytes)
    (λ _. by_test (λ t. turn_ends t bytes (λ next. RefEnds bytes next) → Digits is_hex_digit 16 value (b ∷ bytes)) (is_hex_digit b) _ ref_off
    (λ digit. goes_is hexadecimal_at bytes (value * 16 + digit_value b) (Digits is_hex_digit 16 value (b ∷ bytes))
    (λ g. longer digit (hexadecimal_is bytes (value * 16 + digit_value b) g)))
    (λ _ g. absurd g)) h
  where
    longer : is_hex_digit b ≡ true → Digits is_hex_digit 16 (value * 16 + digit_value b) bytes → Digits is_hex_digit 16 value (b ∷ bytes)
    longer digit (digits, all, scalar, is) = (b ∷ digits, (digit, all), scalar, ap (λ xs. b ∷ xs) is)

-- a number in base sixteen, behind `&#x`
hash_x_is : (bytes : List ℕ) → RefEnds bytes hash_x → Referred (35 ∷ 120 ∷ bytes)
hash_x_is [] h = absurd h
hash_x_is (b ∷ bytes) h =
    by_test (λ t. turn_ends t bytes (λ next. RefEnds bytes next) → Referred (35 ∷ 120 ∷ b ∷ bytes)) (is_hex_digit b) _ ref_off
    (λ digit. goes_is hexadecimal_at bytes (digit_value b) (Referred (35 ∷ 120 ∷ b ∷ bytes))
    (λ g. whole digit (hexadecimal_is bytes (digit_value b) g)))
    (λ _ g. absurd g) h
  where
    whole : is_hex_digit b ≡ true → Digits is_hex_digit 16 (digit_value b) bytes → Referred (35 ∷ 120 ∷ b ∷ bytes)
    whole digit (digits, all, scalar, is) =
        let zero_less : 0 * 16 + digit_value b ≡ digit_value b = omega arith in
        let P : ℕ → Type 0 = λ n. IsScalar (number_from 16 n digits) in
        (hexadecimal (b ∷ digits), ((λ e. cc), (digit, all), subst P (sym zero_less) scalar), ap (λ xs. 35 ∷ 120 ∷ b ∷ xs) is)

-- a number, behind `&#`
hash_is : (bytes : List ℕ) → RefEnds bytes hash → Referred (35 ∷ bytes)
hash_is [] h = absurd h
hash_is (b ∷ bytes) h =
    by_byte (λ n t. turn_ends t bytes (λ next. RefEnds bytes next) → Referred (35 ∷ n ∷ bytes)) b 120 (ref_on hash_x) _ (hash_x_is bytes)
    (λ _. by_test (λ t. turn_ends t bytes (λ next. RefEnds bytes next) → Referred (35 ∷ b ∷ bytes)) (is_digit b) _ ref_off
    (λ digit. goes_is decimal_at bytes (digit_value b) (Referred (35 ∷ b ∷ bytes))
    (λ g. whole digit (decimal_is bytes (digit_value b) g)))
    (λ _ g. absurd g)) h
  where
    whole : is_digit b ≡ true → Digits is_digit 10 (digit_value b) bytes → Referred (35 ∷ b ∷ bytes)
    whole digit (digits, all, scalar, is) =
        let zero_less : 0 * 10 + digit_value b ≡ digit_value b = omega arith in
        let P : ℕ → Type 0 = λ n. IsScalar (number_from 10 n digits) in
        (decimal (b ∷ digits), ((λ e. cc), (digit, all), subst P (sym zero_less) scalar), ap (λ xs. 35 ∷ b ∷ xs) is)

-- `&amp;` or `&apos;`, behind `&a`
after_a_is : (bytes : List ℕ) → RefEnds bytes after_a → Referred (97 ∷ bytes)
after_a_is [] h = absurd h
after_a_is (b ∷ bytes) h =
    by_byte (λ n t. turn_ends t bytes (λ next. RefEnds bytes next) → Referred (97 ∷ n ∷ bytes)) b 109 _ _
    (λ g. (amp, tt, ap (λ xs. 97 ∷ 109 ∷ xs) (due_is bytes 112 (59 ∷ []) g)))
    (λ _. by_byte (λ n t. turn_ends t bytes (λ next. RefEnds bytes next) → Referred (97 ∷ n ∷ bytes)) b 112 _ _
    (λ g. (apos, tt, ap (λ xs. 97 ∷ 112 ∷ xs) (due_is bytes 111 (115 ∷ 59 ∷ []) g)))
    (λ _ g. absurd g)) h

-- what ends a reference is its body and the `;`
pub reference_is : (bytes : List ℕ) → RefEnds bytes begun → Referred bytes
reference_is [] h = absurd h
reference_is (b ∷ bytes) h =
    by_byte (λ n t. turn_ends t bytes (λ next. RefEnds bytes next) → Referred (n ∷ bytes)) b 97 (ref_on after_a) _ (after_a_is bytes)
    (λ _. by_byte (λ n t. turn_ends t bytes (λ next. RefEnds bytes next) → Referred (n ∷ bytes)) b 108 _ _
    (λ g. (lt, tt, ap (λ xs. 108 ∷ xs) (due_is bytes 116 (59 ∷ []) g)))
    (λ _. by_byte (λ n t. turn_ends t bytes (λ next. RefEnds bytes next) → Referred (n ∷ bytes)) b 103 _ _
    (λ g. (gt, tt, ap (λ xs. 103 ∷ xs) (due_is bytes 116 (59 ∷ []) g)))
    (λ _. by_byte (λ n t. turn_ends t bytes (λ next. RefEnds bytes next) → Referred (n ∷ bytes)) b 113 _ _
    (λ g. (quot, tt, ap (λ xs. 113 ∷ xs) (due_is bytes 117 (111 ∷ 116 ∷ 59 ∷ []) g)))
    (λ _. by_byte (λ n t. turn_ends t bytes (λ next. RefEnds bytes next) → Referred (n ∷ bytes)) b 35 (ref_on hash) _ (hash_is bytes)
    (λ _ g. absurd g))))) h
