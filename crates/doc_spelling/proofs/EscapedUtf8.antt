-- What is written for a text in UTF-8 is in UTF-8.
use Rattle.std.proofs.Common.{◌≡◌, ℕ, zero, suc, ◌+◌, ◌-◌, ◌<◌, ◌≤◌, ◌==◌, ◌&&◌, Bool, true, false, cond, ltb, leb, Option, Some, None, List, [], ◌∷◌, ◌++◌, codes, ap, sym, refl, ◌∙◌, arith, inl, inr, ◌⊎◌, ltb-true}
use Rattle.std.proofs.lemmas.Bool.{cases_lt, ne_eqb}
use Rattle.std.proofs.lemmas.Bool.Decides.{nat_tests}
use Rattle.std.proofs.lemmas.Str.{IsUtf8-from_ascii, IsUtf8-append}
use Rattle.std.proofs.lemmas.Str.Ascii.{IsAscii-cons, IsAscii-nil}
use Rattle.std.specs.Str.{IsUtf8}
use Rattle.markup_grammar.proofs.Utf8Texts.{run_on, run_off, run_text, run-from_IsUtf8, IsUtf8-from_run}
use Rattle.markup_grammar.specs.Escapes.{escaped, escaped_byte, upper_digit, upper_digits, numbered_control}
use Rattle.markup_grammar.specs.Utf8.{Partial, none_left, one, two, two_low, two_high, three, three_low, three_high, utf8_step, utf8_run, lies_in}
use Rattle.base64.specs.GeneralPurpose.{IsBytes}
use Rattle.doc_spelling.proofs.ValueTexts.{literal}

either_way : {A : Type 0} (P : A → Type 0) (b : Bool) (x y : A) → (b ≡ true → P x) → (b ≡ false → P y) → P (cond b x y)
either_way P true x y f g = f refl
either_way P false x y f g = g refl

one_byte : (b : ℕ) → b < 128 → IsUtf8 (b ∷ [])
one_byte b h = IsUtf8-from_ascii (b ∷ []) (IsAscii-cons b [] h IsAscii-nil)

digit_small : (d : ℕ) → d < 32 → upper_digit d < 128
digit_small d h = either_way (λ (n : ℕ). n < 128) (ltb d 10) (48 + d) (55 + d) (λ e. omega arith) (λ e. omega arith)

digits_utf8 : (b : ℕ) → b < 32 → IsUtf8 (upper_digits b)
digits_utf8 b h =
    either_way IsUtf8 (ltb b 16) (upper_digit b ∷ []) (49 ∷ upper_digit (b - 16) ∷ []) (λ e. one_byte (upper_digit b) (digit_small b h))
    (λ e. IsUtf8-from_ascii (49 ∷ upper_digit (b - 16) ∷ []) (IsAscii-cons 49 (upper_digit (b - 16) ∷ []) (omega arith) (IsAscii-cons (upper_digit (b - 16)) [] (digit_small (b - 16) (omega arith)) IsAscii-nil)))

escape_utf8 : (b : ℕ) → b < 128 → IsUtf8 (escaped_byte b)
unfolding escaped_byte
escape_utf8 b h =
    either_way IsUtf8 (b == 38) _ _ (λ e. literal 38 (codes "amp;") refl)
    (λ e. either_way IsUtf8 (b == 60) _ _ (λ e. literal 38 (codes "lt;") refl)
    (λ e. either_way IsUtf8 (b == 62) _ _ (λ e. literal 38 (codes "gt;") refl)
    (λ e. either_way IsUtf8 (b == 34) _ _ (λ e. literal 38 (codes "quot;") refl)
    (λ e. either_way IsUtf8 (b == 9) _ _ (λ e. one_byte b h)
    (λ e. either_way IsUtf8 (b == 10) _ _ (λ e. one_byte b h)
    (λ e. either_way IsUtf8 (ltb b 32) (numbered_control b) (b ∷ [])
    (λ low. IsUtf8-append (codes "&#x") (upper_digits b ++ 59 ∷ []) (literal 38 (codes "#x") refl) (IsUtf8-append (upper_digits b) (59 ∷ []) (digits_utf8 b (ltb-true b 32 low)) (one_byte 59 (omega arith))))
    (λ e. one_byte b h)))))))

same_byte : (b : ℕ) → 128 ≤ b → escaped_byte b ≡ b ∷ []
unfolding escaped_byte
same_byte b h =
    let high : ltb b 32 ≡ false = grind (arith, nat_tests) in
    rw (ne_eqb b 38 (omega arith), ne_eqb b 60 (omega arith), ne_eqb b 62 (omega arith), ne_eqb b 34 (omega arith), ne_eqb b 9 (omega arith), ne_eqb b 10 (omega arith), high) refl

-- an ASCII byte comes between two characters, and never within one
ascii_step : (b : ℕ) → b < 128 → utf8_step none_left b ≡ Some none_left
unfolding utf8_step
ascii_step b h =
    let low : ltb b 128 ≡ true = grind (arith, nat_tests) in
    rw low refl

ascii_between : (state : Partial) (b : ℕ) → b < 128 → (state ≡ none_left) ⊎ (utf8_step state b ≡ None)
unfolding utf8_step
ascii_between none_left b h = inl refl
ascii_between one b h = let low : leb 128 b ≡ false = grind (arith, nat_tests) in inr (rw low refl)
ascii_between two b h = let low : leb 128 b ≡ false = grind (arith, nat_tests) in inr (rw low refl)
ascii_between two_low b h = let low : leb 128 b ≡ false = grind (arith, nat_tests) in inr (rw low refl)
ascii_between two_high b h = let low : leb 160 b ≡ false = grind (arith, nat_tests) in inr (rw low refl)
ascii_between three b h = let low : leb 128 b ≡ false = grind (arith, nat_tests) in inr (rw low refl)
ascii_between three_low b h = let low : leb 128 b ≡ false = grind (arith, nat_tests) in inr (rw low refl)
ascii_between three_high b h = let low : leb 144 b ≡ false = grind (arith, nat_tests) in inr (rw low refl)

-- one byte of a text, from any state on
step_if : (b : ℕ) (text plain_text : List ℕ) (state : Partial) (o : Option Partial) → utf8_step state b ≡ o
    → ((next : Partial) → utf8_run text next ≡ Some none_left → utf8_run plain_text next ≡ Some none_left)
    → utf8_run (b ∷ text) state ≡ Some none_left → utf8_run (b ∷ plain_text) state ≡ Some none_left
step_if b text plain_text state None e more h = let off = run_off state b text e in cc
step_if b text plain_text state (Some next) e more h = run_on state b plain_text next e ∙ more next (sym (run_on state b text next e) ∙ h)

at_start : (b : ℕ) (text plain_text : List ℕ) (state : Partial) → b < 128 → (state ≡ none_left) ⊎ (utf8_step state b ≡ None)
    → (utf8_run text none_left ≡ Some none_left → utf8_run plain_text none_left ≡ Some none_left)
    → utf8_run (b ∷ text) state ≡ Some none_left → utf8_run (escaped_byte b ++ plain_text) state ≡ Some none_left
at_start b text plain_text state small (inl e) more h =
    ap (utf8_run (escaped_byte b ++ plain_text)) e
    ∙ (run_text (escaped_byte b) plain_text (escape_utf8 b small)
    ∙ more (sym (run_on none_left b text none_left (ascii_step b small)) ∙ (ap (utf8_run (b ∷ text)) (sym e) ∙ h)))
at_start b text plain_text state small (inr e) more h = let off = run_off state b text e in cc

either_byte : (b : ℕ) (text : List ℕ) (state : Partial) → (b < 128) ⊎ (128 ≤ b)
    → ((next : Partial) → utf8_run text next ≡ Some none_left → utf8_run (escaped text) next ≡ Some none_left)
    → utf8_run (b ∷ text) state ≡ Some none_left → utf8_run (escaped_byte b ++ escaped text) state ≡ Some none_left
either_byte b text state (inl low) more h = at_start b text (escaped text) state low (ascii_between state b low) (more none_left) h
either_byte b text state (inr high) more h =
    ap (λ l. utf8_run (l ++ escaped text) state) (same_byte b high) ∙ step_if b text (escaped text) state (utf8_step state b) refl more h

run_escaped : (text : List ℕ) (state : Partial) → utf8_run text state ≡ Some none_left → utf8_run (escaped text) state ≡ Some none_left
run_escaped [] state h = h
run_escaped (b ∷ text) state h = either_byte b text state (cases_lt b 128) (run_escaped text) h

pub escaped_utf8 : (text : List ℕ) → IsUtf8 text → IsUtf8 (escaped text)
escaped_utf8 text is = IsUtf8-from_run (escaped text) (run_escaped text none_left (run-from_IsUtf8 text is))

-- ---- a text in UTF-8 is made of bytes

past_range : (least most b : ℕ) → most < b → lies_in least most b ≡ false
past_range least most b h = right (leb least b) (leb b most) (let no : leb b most ≡ false = grind (arith, nat_tests) in no)
  where
    right : (x y : Bool) → y ≡ false → x && y ≡ false
    right true y e = e
    right false y e = refl

no_step : (state : Partial) (b : ℕ) → 256 ≤ b → utf8_step state b ≡ None
unfolding utf8_step
no_step none_left b h =
    let high : ltb b 128 ≡ false = grind (arith, nat_tests) in
    rw (high, past_range 0xC2 0xDF b (omega arith), ne_eqb b 0xE0 (omega arith), ne_eqb b 0xED (omega arith), past_range 0xE1 0xEF b (omega arith), ne_eqb b 0xF0 (omega arith), past_range 0xF1 0xF3 b (omega arith), ne_eqb b 0xF4 (omega arith)) refl
no_step one b h = rw (past_range 0x80 0xBF b (omega arith)) refl
no_step two b h = rw (past_range 0x80 0xBF b (omega arith)) refl
no_step two_low b h = rw (past_range 0x80 0x9F b (omega arith)) refl
no_step two_high b h = rw (past_range 0xA0 0xBF b (omega arith)) refl
no_step three b h = rw (past_range 0x80 0xBF b (omega arith)) refl
no_step three_low b h = rw (past_range 0x80 0x8F b (omega arith)) refl
no_step three_high b h = rw (past_range 0x90 0xBF b (omega arith)) refl

first_byte : (b : ℕ) (text : List ℕ) (state last : Partial) → utf8_run (b ∷ text) state ≡ Some last → (b < 256) ⊎ (256 ≤ b) → b < 256
first_byte b text state last e (inl low) = low
first_byte b text state last e (inr high) = let off = run_off state b text (no_step state b high) in absurd (let no : ⊥ = cc in no)

run_rest : (b : ℕ) (text : List ℕ) (state last : Partial) (o : Option Partial) → utf8_step state b ≡ o → utf8_run (b ∷ text) state ≡ Some last → (next : Partial) × (utf8_run text next ≡ Some last)
run_rest b text state last None e h = let off = run_off state b text e in cc
run_rest b text state last (Some next) e h = (next, sym (run_on state b text next e) ∙ h)

bytes_of_run : (text : List ℕ) (state last : Partial) → utf8_run text state ≡ Some last → IsBytes text
bytes_of_run [] state last h i = omega arith
bytes_of_run (b ∷ text) state last h zero = first_byte b text state last h (cases_lt b 256)
bytes_of_run (b ∷ text) state last h (suc i) = let rest = run_rest b text state last (utf8_step state b) refl h in bytes_of_run text rest.0 last rest.1 i

pub utf8_bytes : (text : List ℕ) → IsUtf8 text → IsBytes text
utf8_bytes text is = bytes_of_run text none_left none_left (run-from_IsUtf8 text is)
