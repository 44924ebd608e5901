-- What is written for a text is a run of text, and of a value in double quotes.
use Rattle.std.proofs.Common.{◌≡◌, ℕ, ◌-◌, ◌≤◌, ◌<◌, Bool, true, false, eqb, ltb, List, [], ◌∷◌, ◌++◌, refl, ap, ◌∙◌, inl, arith, eqb-true, ltb-false, ltb-true}
use Rattle.std.proofs.lemmas.Bool.Decides.{nat_tests}
use Rattle.markup_grammar.specs.Bytes.{is_space, is_digit, is_hex_digit, digit_value, is_text, is_value}
use Rattle.markup_grammar.specs.Escapes.{escaped, escaped_byte, upper_digit, upper_digits, numbered_control}
use Rattle.markup_grammar.specs.References.{Reference, amp, lt, gt, quot, hexadecimal, reference_body, IsReference}
use Rattle.markup_grammar.specs.Runs.{reference, IsRun}
use Rattle.markup_grammar.proofs.CharacterTold.{hex_small}
use Rattle.markup_grammar.proofs.Edges.{by_test, by_byte}
use Rattle.markup_grammar.proofs.Made.{run_append}
use Rattle.markup_grammar.proofs.TagTexts.{run_empty, run_plain}

-- a reference alone is a run
one_reference : (test : ℕ → Bool) (r : Reference) → IsReference r → IsRun test (38 ∷ (reference_body r ++ 59 ∷ []))
one_reference test r is = record { bits = reference r ∷ []; are_bits = (is, tt); spells = refl }

upper_hex : (d : ℕ) → d < 16 → is_hex_digit (upper_digit d) ≡ true
unfolding is_hex_digit is_digit
upper_hex d h = grind (arith, nat_tests)

one_is_hex : is_hex_digit 49 ≡ true
unfolding is_hex_digit is_digit
one_is_hex = refl

-- a control below the space, by its number
control_is : (b : ℕ) → b < 32 → IsReference (hexadecimal (upper_digits b))
control_is b h =
    by_test (λ digits. IsReference (hexadecimal digits)) (ltb b 16) (upper_digit b ∷ []) (49 ∷ upper_digit (b - 16) ∷ [])
    (λ low. one (upper_digit b) (upper_hex b (ltb-true b 16 low)))
    (λ high. two (upper_digit (b - 16)) (let least : 16 ≤ b = ltb-false b 16 high in upper_hex (b - 16) (omega arith)))
  where
    one : (x : ℕ) → is_hex_digit x ≡ true → IsReference (hexadecimal (x ∷ []))
    one x hex =
        let small : digit_value x < 16 = hex_small x hex in
        ((λ nil. cc), (hex, tt), inl (omega arith))

    two : (x : ℕ) → is_hex_digit x ≡ true → IsReference (hexadecimal (49 ∷ x ∷ []))
    two x hex =
        let first : digit_value 49 < 16 = hex_small 49 one_is_hex in
        let small : digit_value x < 16 = hex_small x hex in
        ((λ nil. cc), (one_is_hex, (hex, tt)), inl (omega arith))

-- what is written for a byte
byte_is : (test : ℕ → Bool) (b : ℕ) → test 9 ≡ true → test 10 ≡ true → (ltb b 32 ≡ false → eqb b 38 ≡ false → eqb b 60 ≡ false → eqb b 34 ≡ false → test b ≡ true) → IsRun test (escaped_byte b)
unfolding escaped_byte
byte_is test b tab feed other =
    by_byte (λ n xs. IsRun test xs) b 38 _ _ (one_reference test amp tt)
    (λ no_and. by_byte (λ n xs. IsRun test xs) b 60 _ _ (one_reference test lt tt)
    (λ no_less. by_byte (λ n xs. IsRun test xs) b 62 _ _ (one_reference test gt tt)
    (λ _. by_byte (λ n xs. IsRun test xs) b 34 _ _ (one_reference test quot tt)
    (λ no_quote. by_test (λ xs. IsRun test xs) (eqb b 9) (b ∷ []) _ (λ e. run_plain test b [] (at b 9 e tab) (run_empty test))
    (λ _. by_test (λ xs. IsRun test xs) (eqb b 10) (b ∷ []) _ (λ e. run_plain test b [] (at b 10 e feed) (run_empty test))
    (λ _. by_test (λ xs. IsRun test xs) (ltb b 32) (numbered_control b) (b ∷ [])
    (λ low. one_reference test (hexadecimal (upper_digits b)) (control_is b (ltb-true b 32 low)))
    (λ high. run_plain test b [] (other high no_and no_less no_quote) (run_empty test))))))))
  where
    at : (b c : ℕ) → eqb b c ≡ true → test c ≡ true → test b ≡ true
    at b c e h = ap test (eqb-true b c e) ∙ h

bytes_are : (test : ℕ → Bool) (text : List ℕ) → ((b : ℕ) → IsRun test (escaped_byte b)) → IsRun test (escaped text)
bytes_are test [] all = run_empty test
bytes_are test (b ∷ text) all = run_append test (escaped_byte b) (escaped text) (all b) (bytes_are test text all)

text_passes : (b : ℕ) → ltb b 32 ≡ false → eqb b 38 ≡ false → eqb b 60 ≡ false → eqb b 34 ≡ false → is_text b ≡ true
unfolding is_text is_space
text_passes b high no_and no_less no_quote = grind (arith, nat_tests)

value_passes : (b : ℕ) → ltb b 32 ≡ false → eqb b 38 ≡ false → eqb b 60 ≡ false → eqb b 34 ≡ false → is_value 34 b ≡ true
unfolding is_value
value_passes b high no_and no_less no_quote = rw (text_passes b high no_and no_less no_quote, no_quote) refl

text_tab : is_text 9 ≡ true
unfolding is_text is_space
text_tab = refl

text_feed : is_text 10 ≡ true
unfolding is_text is_space
text_feed = refl

value_tab : is_value 34 9 ≡ true
unfolding is_value is_text is_space
value_tab = refl

value_feed : is_value 34 10 ≡ true
unfolding is_value is_text is_space
value_feed = refl

-- what is written for a text may stand between two tags
pub escaped_text : (text : List ℕ) → IsRun is_text (escaped text)
escaped_text text = bytes_are is_text text (λ b. byte_is is_text b text_tab text_feed (text_passes b))

-- and between two double quotes
pub escaped_value : (text : List ℕ) → IsRun (is_value 34) (escaped text)
escaped_value text = bytes_are (is_value 34) text (λ b. byte_is (is_value 34) b value_tab value_feed (value_passes b))
