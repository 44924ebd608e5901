-- Each state that a good front leads to can be completed to a text, and its characters with it.
use Rattle.std.proofs.Common.{◌≡◌, ℕ, ◌+◌, ◌*◌, ◌<◌, ◌≤◌, true, false, eqb, Option, Some, None, List, [], ◌∷◌, ◌++◌, length, refl, ap, sym, ◌∙◌, subst, inl, inr, ⊎_elim, append_assoc, arith}
use Rattle.std.proofs.lemmas.Bool.{cases_lt, le-leb, eq-eqb, ne_eqb}
use Rattle.std.proofs.lemmas.Bool.Decides.{nat_tests}
use Rattle.markup_grammar.specs.Answers.{Answer, start, words, stop, finishes}
use Rattle.markup_grammar.specs.Bytes.{is_space, is_digit, is_hex_digit, digit_value, begins_name, is_name_byte, is_text, is_value}
use Rattle.markup_grammar.specs.Faults.{end_tags}
use Rattle.markup_grammar.specs.Machine as m
use Rattle.markup_grammar.specs.Machine.{State, Level, Ref, Dashes, Spot, Names, Turn, RefTurn, SpotTurn, on, off, ref_on, ref_ends, ref_off, spot_on, spot_off, step, ref_step, spot_step, number_on, number_ends, in_run, in_value, tag_turn, level_of_names, before, within, behind, no_dash, one_dash, two_dashes, spaced, naming, named, equalled, valuing, referring, valued, begun, after_a, due, hash, decimal_at, hash_x, hexadecimal_at, fresh, between, opened, bang_dash, in_comment, in_instruction, in_words, in_reference, in_name, in_tag, slashed, closing, closed, answers_from}
use Rattle.markup_grammar.specs.References.{IsScalar}
use Rattle.markup_grammar.specs.Tags.{IsQuote}
use Rattle.markup_grammar.specs.Utf8.{Partial, none_left, one, two, two_low, two_high, three, three_low, three_high, utf8_step, utf8_run}
use Rattle.markup_grammar.proofs.Classes.{space_not_double, space_not_equal, name_not_equal}
use Rattle.markup_grammar.proofs.Clean.{clean}
use Rattle.markup_grammar.proofs.Fits.{Fits, AreWholeNames, FitsLevel, FitsSpot, AreDue, CanEnd}
use Rattle.markup_grammar.proofs.Runs.{end_on}
use Rattle.markup_grammar.proofs.Steps.{IsClean, finishes-clean, at_end, step_on}
use Rattle.markup_grammar.proofs.Utf8Table.{Steps, steps}
use Rattle.markup_grammar.proofs.Utf8Texts.{run_nil, run_on, run_off}
use Rattle.markup_grammar.proofs.Utf8Fronts.{run_append}

-- some bytes complete the text and its last character
abbrev pub Alive : State → Partial → ℕ → Type 0
Alive s u at = (more : List ℕ) × (finishes (answers_from s at more) ≡ true) × (utf8_run more u ≡ Some none_left)

-- a byte before what completes it
alive_on : (s next : State) (u v : Partial) (at b : ℕ) (said : List Answer) → step s at b ≡ on said next → utf8_step u b ≡ Some v → Alive next v (at + 1) → Alive s u at
alive_on s next u v at b said is e (more, ends, ran) = (
  b ∷ more,
  ap finishes (step_on s next at b more said is)
      ∙ (finishes-clean said (answers_from next (at + 1) more) (let P : Turn → Type 0 = λ t. IsClean t in subst P is (clean s at b)) ∙ ends),
  run_on u b more v e ∙ ran,
)

at_none : (s : State) (u : Partial) (at : ℕ) → u ≡ none_left → Alive s none_left at → Alive s u at
at_none s u at same h = let P : Partial → Type 0 = λ v. Alive s v at in subst P (sym same) h

-- a byte of ASCII
ascii : (b : ℕ) → b < 128 → utf8_step none_left b ≡ Some none_left
ascii b low = steps none_left b none_left low

alive_ascii : (s next : State) (at b : ℕ) (said : List Answer) → step s at b ≡ on said next → b < 128 → Alive next none_left (at + 1) → Alive s none_left at
alive_ascii s next at b said is low h = alive_on s next none_left none_left at b said is (ascii b low) h

blank : is_space 32 ≡ true
unfolding is_space
blank = refl

-- the end tag of a name, and what follows
tag_ends : (name : List ℕ) (names : Names) (rest : List ℕ) (at : ℕ) → finishes (answers_from (between (level_of_names names)) (at + 2 + (length name + 2)) rest) ≡ true → finishes (answers_from (closing at name names) (at + 2) (name ++ (32 ∷ 62 ∷ rest))) ≡ true
tag_ends name names rest at h =
    ap finishes (end_on at name names (32 ∷ []) rest (at + 2) (blank, tt))
    ∙ (ap (λ n. finishes (answers_from (between (level_of_names names)) n rest)) (let e : at + 2 + (length name + (1 + 1)) ≡ at + 2 + (length name + 2) = omega arith in e) ∙ h)

-- the end tags of the open elements complete a text
pub tags_finish : (names : Names) (at : ℕ) → finishes (answers_from (between (level_of_names names)) at (end_tags names)) ≡ true
tags_finish [] at = ap finishes (at_end (between behind) at)
tags_finish (name ∷ names) at =
    ap finishes (ap (λ bs. answers_from (between (within name names)) at bs) (tags_are name names)
    ∙ (step_on (between (within name names)) (opened at (within name names)) at 60 (47 ∷ (name ++ (32 ∷ 62 ∷ end_tags names))) [] refl
    ∙ (step_on (opened at (within name names)) (closing at name names) (at + 1) 47 (name ++ (32 ∷ 62 ∷ end_tags names)) [] refl
    ∙ ap (λ n. answers_from (closing at name names) n (name ++ (32 ∷ 62 ∷ end_tags names))) (let e : at + 1 + 1 ≡ at + 2 = omega arith in e))))
    ∙ tag_ends name names (end_tags names) at (tags_finish names (at + 2 + (length name + 2)))
  where
    tags_are : (name : List ℕ) (names : Names) → end_tags (name ∷ names) ≡ 60 ∷ 47 ∷ (name ++ (32 ∷ 62 ∷ end_tags names))
    tags_are name names = simp append_assoc refl

pub tags_run : (names : Names) → AreWholeNames names → utf8_run (end_tags names) none_left ≡ Some none_left
tags_run [] are = run_nil none_left
tags_run (name ∷ names) are =
    run_on none_left 60 _ none_left (ascii 60 (omega arith))
    ∙ (run_on none_left 47 _ none_left (ascii 47 (omega arith))
    ∙ (ap (λ bs. utf8_run bs none_left) (append_assoc name (32 ∷ 62 ∷ []) (end_tags names))
    ∙ (run_append name (32 ∷ 62 ∷ end_tags names) none_left none_left are.0.1
    ∙ (run_on none_left 32 _ none_left (ascii 32 (omega arith)) ∙ (run_on none_left 62 _ none_left (ascii 62 (omega arith)) ∙ tags_run names are.1)))))

alive_outside : (names : Names) (at : ℕ) → AreWholeNames names → Alive (between (level_of_names names)) none_left at
alive_outside names at are = (end_tags names, tags_finish names at, tags_run names are)

alive_behind : (at : ℕ) → Alive (between behind) none_left at
alive_behind at = alive_outside [] at tt

alive_slashed : (slash place : ℕ) (name raw : List ℕ) (names : Names) (at : ℕ) → AreWholeNames names → Alive (slashed slash place name raw names) none_left at
alive_slashed slash place name raw names at are =
    alive_ascii (slashed slash place name raw names) (between (level_of_names names)) at 62 (start place name raw ∷ stop slash ∷ []) refl (omega arith) (alive_outside names (at + 1) are)

-- in a name
alive_name : (place : ℕ) (name : List ℕ) (names : Names) (at : ℕ) → AreWholeNames names → Alive (in_name place name names) none_left at
alive_name place name names at are =
    alive_ascii (in_name place name names) (slashed at place name [] names) at 47 [] refl (omega arith) (alive_slashed at place name [] names (at + 1) are)

letter_a : begins_name 97 ≡ true
unfolding begins_name
letter_a = refl

alive_opened_before : (place at : ℕ) → Alive (opened place before) none_left at
alive_opened_before place at =
    alive_ascii (opened place before) (in_name place (97 ∷ []) []) at 97 [] (rw letter_a refl) (omega arith) (alive_name place (97 ∷ []) [] (at + 1) tt)

alive_before : (at : ℕ) → Alive (between before) none_left at
alive_before at =
    alive_ascii (between before) (opened at before) at 60 [] refl (omega arith) (alive_opened_before at (at + 1))

-- between two tags
alive_level : (level : Level) (at : ℕ) → FitsLevel level → Alive (between level) none_left at
alive_level before at fits = alive_before at
alive_level (within name names) at fits = alive_outside (name ∷ names) at fits
alive_level behind at fits = alive_behind at

alive_asked : (level : Level) (at : ℕ) → FitsLevel level → Alive (in_instruction true level) none_left at
alive_asked level at fits =
    alive_ascii (in_instruction true level) (between level) at 62 [] refl (omega arith) (alive_level level (at + 1) fits)

alive_not_asked : (level : Level) (at : ℕ) → FitsLevel level → Alive (in_instruction false level) none_left at
alive_not_asked level at fits =
    alive_ascii (in_instruction false level) (in_instruction true level) at 63 [] refl (omega arith) (alive_asked level (at + 1) fits)

-- behind a `<`
alive_opened : (place : ℕ) (level : Level) (at : ℕ) → FitsLevel level → Alive (opened place level) none_left at
alive_opened place level at fits =
    alive_ascii (opened place level) (in_instruction false level) at 63 [] refl (omega arith) (alive_not_asked level (at + 1) fits)

alive_two_dashes : (level : Level) (at : ℕ) → FitsLevel level → Alive (in_comment two_dashes level) none_left at
alive_two_dashes level at fits =
    alive_ascii (in_comment two_dashes level) (between level) at 62 [] refl (omega arith) (alive_level level (at + 1) fits)

alive_one_dash : (level : Level) (at : ℕ) → FitsLevel level → Alive (in_comment one_dash level) none_left at
alive_one_dash level at fits =
    alive_ascii (in_comment one_dash level) (in_comment two_dashes level) at 45 [] refl (omega arith) (alive_two_dashes level (at + 1) fits)

alive_no_dash : (level : Level) (at : ℕ) → FitsLevel level → Alive (in_comment no_dash level) none_left at
alive_no_dash level at fits =
    alive_ascii (in_comment no_dash level) (in_comment one_dash level) at 45 [] refl (omega arith) (alive_one_dash level (at + 1) fits)

-- bytes that go on with a character

module _ (S : Type 0) (state : S → State) (next : S → ℕ → S)
    (goes : (x : S) (at b : ℕ) → 128 ≤ b → step (state x) at b ≡ on [] (state (next x b)))
    (whole : (x : S) (at : ℕ) → Alive (state x) none_left at) where
  through_one : (x : S) (at : ℕ) → Alive (state x) one at
  through_one x at =
      alive_on (state x) (state (next x 0x80)) one none_left at 0x80 [] (goes x at 0x80 (omega arith)) (steps one 0x80 none_left (omega arith, omega arith)) (whole (next x 0x80) (at + 1))

  through_two : (u : Partial) (b : ℕ) → 128 ≤ b → Steps u b one → (x : S) (at : ℕ) → Alive (state x) u at
  through_two u b high is x at =
      alive_on (state x) (state (next x b)) u one at b [] (goes x at b high) (steps u b one is) (through_one (next x b) (at + 1))

  through_three : (u : Partial) (b : ℕ) → 128 ≤ b → Steps u b two → (x : S) (at : ℕ) → Alive (state x) u at
  through_three u b high is x at =
      alive_on (state x) (state (next x b)) u two at b [] (goes x at b high) (steps u b two is) (through_two two 0x80 (omega arith) (omega arith, omega arith) (next x b) (at + 1))

  through : (u : Partial) (x : S) (at : ℕ) → Alive (state x) u at
  through none_left x at = whole x at
  through one x at = through_one x at
  through two x at = through_two two 0x80 (omega arith) (omega arith, omega arith) x at
  through two_low x at = through_two two_low 0x80 (omega arith) (omega arith, omega arith) x at
  through two_high x at = through_two two_high 0xA0 (omega arith) (omega arith, omega arith) x at
  through three x at = through_three three 0x80 (omega arith) (omega arith, omega arith) x at
  through three_low x at = through_three three_low 0x80 (omega arith) (omega arith, omega arith) x at
  through three_high x at = through_three three_high 0x90 (omega arith) (omega arith, omega arith) x at

-- a digit 0
zero_digit : is_digit 48 ≡ true
unfolding is_digit
zero_digit = refl

zero_hex : is_hex_digit 48 ≡ true
unfolding is_hex_digit is_digit
zero_hex = refl

zero_value : digit_value 48 ≡ 0
unfolding digit_value
zero_value = refl

scalar_ends : (value : ℕ) → IsScalar value → number_ends value ≡ ref_ends
scalar_ends value (inl low) = grind arith
scalar_ends value (inr (high, most)) = grind arith

on_due : (c : ℕ) → ref_step (due c []) c ≡ ref_ends
on_due c = rw (eq-eqb c c refl) refl

on_due_more : (c d : ℕ) (rest : List ℕ) → ref_step (due c (d ∷ rest)) c ≡ ref_on (due d rest)
on_due_more c d rest = rw (eq-eqb c c refl) refl

on_hash : ref_step hash 48 ≡ ref_on (decimal_at 0)
on_hash = rw (zero_digit, zero_value) refl

on_hash_x : ref_step hash_x 48 ≡ ref_on (hexadecimal_at 0)
on_hash_x = rw (zero_hex, zero_value) refl

on_decimal : (value : ℕ) → value * 10 ≤ 0x10FFFF → ref_step (decimal_at value) 48 ≡ ref_on (decimal_at (value * 10))
on_decimal value most =
    let e : value * 10 + 0 ≡ value * 10 = omega arith in
    rw (zero_digit, zero_value) (ap (λ n. number_on decimal_at n) e ∙ rw (le-leb (value * 10) 0x10FFFF most) refl)

on_hexadecimal : (value : ℕ) → value * 16 ≤ 0x10FFFF → ref_step (hexadecimal_at value) 48 ≡ ref_on (hexadecimal_at (value * 16))
on_hexadecimal value most =
    let e : value * 16 + 0 ≡ value * 16 = omega arith in
    rw (zero_hex, zero_value) (ap (λ n. number_on hexadecimal_at n) e ∙ rw (le-leb (value * 16) 0x10FFFF most) refl)

-- a reference that can still end, in a run of text or in a value
module _ (X : Type 0) (inside : X → Ref → State) (after : X → State) (next : X → ℕ → X)
    (goes : (x : X) (r t : Ref) (at b : ℕ) → ref_step r b ≡ ref_on t → step (inside x r) at b ≡ on [] (inside (next x b) t))
    (ends : (x : X) (r : Ref) (at b : ℕ) → ref_step r b ≡ ref_ends → step (inside x r) at b ≡ on [] (after (next x b)))
    (whole : (x : X) (at : ℕ) → Alive (after x) none_left at) where
  ref_on_by : (x : X) (r t : Ref) (at b : ℕ) → ref_step r b ≡ ref_on t → b < 128 → Alive (inside (next x b) t) none_left (at + 1) → Alive (inside x r) none_left at
  ref_on_by x r t at b is low h = alive_ascii (inside x r) (inside (next x b) t) at b [] (goes x r t at b is) low h

  ref_end_by : (x : X) (r : Ref) (at b : ℕ) → ref_step r b ≡ ref_ends → b < 128 → Alive (inside x r) none_left at
  ref_end_by x r at b is low = alive_ascii (inside x r) (after (next x b)) at b [] (ends x r at b is) low (whole (next x b) (at + 1))

  alive_due : (rest : List ℕ) (c : ℕ) → AreDue (c ∷ rest) → (x : X) (at : ℕ) → Alive (inside x (due c rest)) none_left at
  alive_due [] c are x at = ref_end_by x (due c []) at c (on_due c) are.0
  alive_due (d ∷ rest) c are x at =
      ref_on_by x (due c (d ∷ rest)) (due d rest) at c (on_due_more c d rest) are.0 (alive_due rest d are.2 (next x c) (at + 1))

  alive_after_a : (x : X) (at : ℕ) → Alive (inside x after_a) none_left at
  alive_after_a x at =
      ref_on_by x after_a (due 112 (59 ∷ [])) at 109 refl (omega arith) (alive_due (59 ∷ []) 112 (omega arith, omega arith, (omega arith, omega arith, tt)) (next x 109) (at + 1))

  alive_decimal_scalar : (value : ℕ) → IsScalar value → (x : X) (at : ℕ) → Alive (inside x (decimal_at value)) none_left at
  alive_decimal_scalar value scalar x at = ref_end_by x (decimal_at value) at 59 (scalar_ends value scalar) (omega arith)

  alive_hexadecimal_scalar : (value : ℕ) → IsScalar value → (x : X) (at : ℕ) → Alive (inside x (hexadecimal_at value)) none_left at
  alive_hexadecimal_scalar value scalar x at = ref_end_by x (hexadecimal_at value) at 59 (scalar_ends value scalar) (omega arith)

  alive_decimal : (value : ℕ) → value ≤ 0x10FFFF → (x : X) (at : ℕ) → Alive (inside x (decimal_at value)) none_left at
  alive_decimal value most x at = ⊎_elim
      (λ low. alive_decimal_scalar value (inl low) x at)
      (λ high. ⊎_elim
      (λ surrogate. ref_on_by x (decimal_at value) (decimal_at (value * 10)) at 48 (on_decimal value (omega arith)) (omega arith)
      (alive_decimal_scalar (value * 10) (inr (omega arith, omega arith)) (next x 48) (at + 1)))
      (λ above. alive_decimal_scalar value (inr (above, most)) x at)
      (cases_lt value 0xE000))
      (cases_lt value 0xD800)

  alive_hexadecimal : (value : ℕ) → value ≤ 0x10FFFF → (x : X) (at : ℕ) → Alive (inside x (hexadecimal_at value)) none_left at
  alive_hexadecimal value most x at = ⊎_elim
      (λ low. alive_hexadecimal_scalar value (inl low) x at)
      (λ high. ⊎_elim
      (λ surrogate. ref_on_by x (hexadecimal_at value) (hexadecimal_at (value * 16)) at 48 (on_hexadecimal value (omega arith)) (omega arith)
      (alive_hexadecimal_scalar (value * 16) (inr (omega arith, omega arith)) (next x 48) (at + 1)))
      (λ above. alive_hexadecimal_scalar value (inr (above, most)) x at)
      (cases_lt value 0xE000))
      (cases_lt value 0xD800)

  alive_ref : (r : Ref) → CanEnd r → (x : X) (at : ℕ) → Alive (inside x r) none_left at
  alive_ref begun can x at = ref_on_by x begun after_a at 97 refl (omega arith) (alive_after_a (next x 97) (at + 1))
  alive_ref after_a can x at = alive_after_a x at
  alive_ref (due c rest) can x at = alive_due rest c can x at
  alive_ref hash can x at = ref_on_by x hash (decimal_at 0) at 48 on_hash (omega arith) (alive_decimal 0 (omega arith) (next x 48) (at + 1))
  alive_ref (decimal_at value) can x at = alive_decimal value can x at
  alive_ref hash_x can x at =
      ref_on_by x hash_x (hexadecimal_at 0) at 48 on_hash_x (omega arith) (alive_hexadecimal 0 (omega arith) (next x 48) (at + 1))
  alive_ref (hexadecimal_at value) can x at = alive_hexadecimal value can x at

high_not : (b c : ℕ) → 128 ≤ b → c < 128 → eqb b c ≡ false
high_not b c high low = ne_eqb b c (omega arith)

high_text : (b : ℕ) → 128 ≤ b → is_text b ≡ true
unfolding is_text is_space
high_text b high = grind (arith, nat_tests)

value_from : (b quote : ℕ) → is_text b ≡ true → eqb b quote ≡ false → is_value quote b ≡ true
unfolding is_value
value_from b quote text other = rw (text, other) refl

high_name : (b : ℕ) → 128 ≤ b → is_name_byte b ≡ true
unfolding is_name_byte begins_name is_digit
high_name b high = grind (arith, nat_tests)

-- in a run of text
alive_words_whole : (place : ℕ) (name : List ℕ) (names : Names) (raw : List ℕ) (at : ℕ) → AreWholeNames (name ∷ names) → Alive (in_words place raw name names) none_left at
alive_words_whole place name names raw at are =
    alive_ascii (in_words place raw name names) (opened at (within name names)) at 60 (words place raw ∷ []) refl (omega arith)
    (alive_opened at (within name names) (at + 1) are)

alive_words : (place : ℕ) (name : List ℕ) (names : Names) (u : Partial) (raw : List ℕ) (at : ℕ) → AreWholeNames (name ∷ names) → Alive (in_words place raw name names) u at
alive_words place name names u raw at are =
    through (List ℕ) (λ xs. in_words place xs name names) (λ xs b. xs ++ b ∷ [])
    (λ xs n b high. rw (high_not b 60 high (omega arith), high_not b 38 high (omega arith), high_text b high) refl)
    (λ xs n. alive_words_whole place name names xs n are) u raw at

-- in a reference in a run of text
alive_reference : (r : Ref) (place : ℕ) (raw name : List ℕ) (names : Names) (at : ℕ) → CanEnd r → AreWholeNames (name ∷ names) → Alive (in_reference r place raw name names) none_left at
alive_reference r place raw name names at can are =
    alive_ref (List ℕ) (λ xs q. in_reference q place xs name names) (λ xs. in_words place xs name names) (λ xs b. xs ++ b ∷ [])
    (λ xs q t n b is. ap (λ x. in_run x place (xs ++ b ∷ []) name names) is)
    (λ xs q n b is. ap (λ x. in_run x place (xs ++ b ∷ []) name names) is)
    (λ xs n. alive_words_whole place name names xs n are) r can raw at

-- in a name that may stand inside a character
alive_name_in : (place : ℕ) (names : Names) (u : Partial) (name : List ℕ) (at : ℕ) → AreWholeNames names → Alive (in_name place name names) u at
alive_name_in place names u name at are =
    through (List ℕ) (λ xs. in_name place xs names) (λ xs b. xs ++ b ∷ [])
    (λ xs n b high. rw (high_not b 62 high (omega arith), high_not b 47 high (omega arith), high_name b high) refl)
    (λ xs n. alive_name place xs names n are) u name at

-- in a comment or an instruction
alive_comment : (u : Partial) (level : Level) (at : ℕ) → FitsLevel level → Alive (in_comment no_dash level) u at
alive_comment u level at fits =
    through Level (λ l. in_comment no_dash level) (λ l b. l) (λ l n b high. rw (high_not b 45 high (omega arith)) refl)
    (λ l n. alive_no_dash level n fits) u level at

alive_instruction : (u : Partial) (level : Level) (at : ℕ) → FitsLevel level → Alive (in_instruction false level) u at
alive_instruction u level at fits =
    through Level (λ l. in_instruction false level) (λ l b. l) (λ l n b high. rw (high_not b 63 high (omega arith)) refl)
    (λ l n. alive_not_asked level n fits) u level at

-- in a start tag behind its name
module _ (place : ℕ) (name : List ℕ) (names : Names) (are : AreWholeNames names) where
  alive_may_end : (spot : Spot) (raw : List ℕ) (at : ℕ) → step (in_tag spot place name raw names) at 47 ≡ on [] (slashed at place name raw names) → Alive (in_tag spot place name raw names) none_left at
  alive_may_end spot raw at is =
      alive_ascii (in_tag spot place name raw names) (slashed at place name raw names) at 47 [] is (omega arith) (alive_slashed at place name raw names (at + 1) are)

  alive_valued : (raw : List ℕ) (at : ℕ) → Alive (in_tag valued place name raw names) none_left at
  alive_valued raw at = alive_may_end valued raw at refl

  alive_valuing_double : (raw : List ℕ) (at : ℕ) → Alive (in_tag (valuing 34) place name raw names) none_left at
  alive_valuing_double raw at =
      alive_ascii (in_tag (valuing 34) place name raw names) (in_tag valued place name (raw ++ 34 ∷ []) names) at 34 [] refl (omega arith) (alive_valued (raw ++ 34 ∷ []) (at + 1))

  alive_valuing_single : (raw : List ℕ) (at : ℕ) → Alive (in_tag (valuing 39) place name raw names) none_left at
  alive_valuing_single raw at =
      alive_ascii (in_tag (valuing 39) place name raw names) (in_tag valued place name (raw ++ 39 ∷ []) names) at 39 [] refl (omega arith) (alive_valued (raw ++ 39 ∷ []) (at + 1))

  alive_valuing : (quote : ℕ) → IsQuote quote → (raw : List ℕ) (at : ℕ) → Alive (in_tag (valuing quote) place name raw names) none_left at
  alive_valuing quote (inl double) raw at =
      let P : ℕ → Type 0 = λ q. Alive (in_tag (valuing q) place name raw names) none_left at in subst P (sym double) (alive_valuing_double raw at)
  alive_valuing quote (inr single) raw at =
      let P : ℕ → Type 0 = λ q. Alive (in_tag (valuing q) place name raw names) none_left at in subst P (sym single) (alive_valuing_single raw at)

  alive_equalled : (raw : List ℕ) (at : ℕ) → Alive (in_tag equalled place name raw names) none_left at
  alive_equalled raw at =
      alive_ascii (in_tag equalled place name raw names) (in_tag (valuing 34) place name (raw ++ 34 ∷ []) names) at 34 [] (rw space_not_double refl) (omega arith) (alive_valuing_double (raw ++ 34 ∷ []) (at + 1))

  alive_named : (raw : List ℕ) (at : ℕ) → Alive (in_tag named place name raw names) none_left at
  alive_named raw at =
      alive_ascii (in_tag named place name raw names) (in_tag equalled place name (raw ++ 61 ∷ []) names) at 61 [] (rw space_not_equal refl) (omega arith) (alive_equalled (raw ++ 61 ∷ []) (at + 1))

  alive_naming : (u : Partial) (raw : List ℕ) (at : ℕ) → Alive (in_tag naming place name raw names) u at
  alive_naming u raw at =
      through (List ℕ) (λ xs. in_tag naming place name xs names) (λ xs b. xs ++ b ∷ []) (λ xs n b high. rw (high_name b high) refl)
      (λ xs n. alive_ascii (in_tag naming place name xs names) (in_tag equalled place name (xs ++ 61 ∷ []) names) n 61 [] (rw (name_not_equal, space_not_equal) refl) (omega arith) (alive_equalled (xs ++ 61 ∷ []) (n + 1))) u raw at

  alive_value : (quote : ℕ) → IsQuote quote → (u : Partial) (raw : List ℕ) (at : ℕ) → Alive (in_tag (valuing quote) place name raw names) u at
  alive_value quote is u raw at =
      through (List ℕ) (λ xs. in_tag (valuing quote) place name xs names) (λ xs b. xs ++ b ∷ [])
      (λ xs n b high. rw (not_quote b high is, high_not b 38 high (omega arith), high_value b high is) refl)
      (λ xs n. alive_valuing quote is xs n) u raw at
    where
      not_quote : (b : ℕ) → 128 ≤ b → IsQuote quote → eqb b quote ≡ false
      not_quote b high (inl double) = ne_eqb b quote (omega arith)
      not_quote b high (inr single) = ne_eqb b quote (omega arith)

      high_value : (b : ℕ) → 128 ≤ b → IsQuote quote → is_value quote b ≡ true
      high_value b high is = value_from b quote (high_text b high) (not_quote b high is)

  alive_referring : (quote : ℕ) (r : Ref) → IsQuote quote → CanEnd r → (raw : List ℕ) (at : ℕ) → Alive (in_tag (referring quote r) place name raw names) none_left at
  alive_referring quote r is can raw at =
      alive_ref (List ℕ) (λ xs q. in_tag (referring quote q) place name xs names) (λ xs. in_tag (valuing quote) place name xs names) (λ xs b. xs ++ b ∷ [])
      (λ xs q t n b e. ap (λ x. tag_turn (in_value quote x) place name (xs ++ b ∷ []) names) e)
      (λ xs q n b e. ap (λ x. tag_turn (in_value quote x) place name (xs ++ b ∷ []) names) e)
      (λ xs n. alive_valuing quote is xs n) r can raw at

  alive_tag : (spot : Spot) (u : Partial) → FitsSpot spot u → (raw : List ℕ) (at : ℕ) → Alive (in_tag spot place name raw names) u at
  alive_tag spaced u fits raw at = at_none _ u at fits (alive_may_end spaced raw at refl)
  alive_tag naming u fits raw at = alive_naming u raw at
  alive_tag named u fits raw at = at_none _ u at fits (alive_named raw at)
  alive_tag equalled u fits raw at = at_none _ u at fits (alive_equalled raw at)
  alive_tag (valuing quote) u fits raw at = alive_value quote fits u raw at
  alive_tag (referring quote r) u fits raw at = at_none _ u at fits.0 (alive_referring quote r fits.1 fits.2 raw at)
  alive_tag valued u fits raw at = at_none _ u at fits (alive_valued raw at)

-- in an end tag
alive_closed : (place : ℕ) (names : Names) (at : ℕ) → AreWholeNames names → Alive (closed place names) none_left at
alive_closed place names at are =
    alive_ascii (closed place names) (between (level_of_names names)) at 62 (stop place ∷ []) refl (omega arith) (alive_outside names (at + 1) are)

alive_closing : (rest : List ℕ) (place : ℕ) (names : Names) (u : Partial) (at : ℕ) → utf8_run rest u ≡ Some none_left → AreWholeNames names → Alive (closing place rest names) u at
alive_closing [] place names u at ran are =
    let h : Some u ≡ Some none_left = sym (run_nil u) ∙ ran in
    let same : u ≡ none_left = cc in
    at_none (closing place [] names) u at same
    (alive_ascii (closing place [] names) (between (level_of_names names)) at 62 (stop place ∷ []) refl (omega arith) (alive_outside names (at + 1) are))
alive_closing (c ∷ rest) place names u at ran are =
    by_turn (utf8_step u c) refl (λ v. alive_closing rest place names v (at + 1))
  where
    by_turn : (turn : Option Partial) → utf8_step u c ≡ turn → ((v : Partial) → utf8_run rest v ≡ Some none_left → AreWholeNames names → Alive (closing place rest names) v (at + 1)) → Alive (closing place (c ∷ rest) names) u at
    by_turn None is further = let none : None ≡ Some none_left = sym (run_off u c rest is) ∙ ran in absurd (cc)
    by_turn (Some v) is further =
        alive_on (closing place (c ∷ rest) names) (closing place rest names) u v at c [] (rw (eq-eqb c c refl) refl) is
        (further v (sym (run_on u c rest v is) ∙ ran) are)

-- the byte order mark
alive_mark_two : (at : ℕ) → Alive m.mark_two one at
alive_mark_two at =
    alive_on m.mark_two (between before) one none_left at 0xBF [] refl (steps one 0xBF none_left (omega arith, omega arith)) (alive_before (at + 1))

alive_mark_one : (at : ℕ) → Alive m.mark_one two at
alive_mark_one at =
    alive_on m.mark_one m.mark_two two one at 0xBB [] refl (steps two 0xBB one (omega arith, omega arith)) (alive_mark_two (at + 1))

alive_fresh : (at : ℕ) → Alive fresh none_left at
alive_fresh at = alive_ascii fresh (opened at before) at 60 [] refl (omega arith) (alive_opened_before at (at + 1))

-- each state that fits
pub alive : (s : State) (u : Partial) (at : ℕ) → Fits s u → Alive s u at
alive fresh u at fits = at_none fresh u at fits (alive_fresh at)
alive m.mark_one u at fits = let P : Partial → Type 0 = λ v. Alive m.mark_one v at in subst P (sym fits) (alive_mark_one at)
alive m.mark_two u at fits = let P : Partial → Type 0 = λ v. Alive m.mark_two v at in subst P (sym fits) (alive_mark_two at)
alive (between level) u at fits = at_none _ u at fits.0 (alive_level level at fits.1)
alive (opened place level) u at fits = at_none _ u at fits.0 (alive_opened place level at fits.1)
alive (m.bang level) u at fits =
    at_none _ u at fits.0
    (alive_ascii (m.bang level) (bang_dash level) at 45 [] refl (omega arith)
    (alive_ascii (bang_dash level) (in_comment no_dash level) (at + 1) 45 [] refl (omega arith) (alive_no_dash level (at + 1 + 1) fits.1)))
alive (bang_dash level) u at fits =
    at_none _ u at fits.0 (alive_ascii (bang_dash level) (in_comment no_dash level) at 45 [] refl (omega arith) (alive_no_dash level (at + 1) fits.1))
alive (in_comment no_dash level) u at fits = alive_comment u level at fits.1
alive (in_comment one_dash level) u at fits = at_none _ u at fits.0 (alive_one_dash level at fits.1)
alive (in_comment two_dashes level) u at fits = at_none _ u at fits.0 (alive_two_dashes level at fits.1)
alive (in_instruction false level) u at fits = alive_instruction u level at fits.1
alive (in_instruction true level) u at fits = at_none _ u at fits.0 (alive_asked level at fits.1)
alive (in_words place raw name names) u at fits = alive_words place name names u raw at fits
alive (in_reference r place raw name names) u at fits = at_none _ u at fits.0 (alive_reference r place raw name names at fits.1 fits.2)
alive (in_name place name names) u at fits = alive_name_in place names u name at fits.2
alive (in_tag spot place name raw names) u at fits = alive_tag place name names fits.1.1 spot u fits.0 raw at
alive (slashed slash place name raw names) u at fits = at_none _ u at fits.0 (alive_slashed slash place name raw names at fits.1.1)
alive (closing place rest names) u at fits = alive_closing rest place names u at fits.1 fits.2
alive (closed place names) u at fits = at_none _ u at fits.0 (alive_closed place names at fits.1)
