-- How the byte-wise reader goes through runs of text and through values.
use Rattle.std.proofs.Common.{◌≡◌, ℕ, ◌+◌, ◌≤◌, Bool, true, false, eqb, not, ◌&&◌, List, [], ◌∷◌, drop, refl, ap, sym, ◌∙◌, arith, slice_range}
use Rattle.markup_grammar.specs.Answers.{form}
use Rattle.markup_grammar.specs.Bytes.{is_space, is_text, is_value}
use Rattle.markup_grammar.specs.Machine.{Names, between, within, in_words, in_reference, in_tag, valuing, valued, referring, begun, step, on}
use Rattle.markup_scanner.specs.Left.{answers_at, StandsAt, BeginsWithout, FailsFirst}
use Rattle.markup_scanner.specs.Scans.{run_end, Host, of_run, of_value, host_state, host_reference}
use Rattle.markup_scanner.proofs.Steps.{left_on, refused, alike, other_byte, fails_there, slice_more, slice_none, run_left}
use Rattle.markup_scanner.proofs.Numbers.{differ}
use Rattle.markup_scanner.proofs.Literals.{eqb_self}

pub text_not_tag : is_text 60 ≡ false
unfolding is_text is_space
text_not_tag = refl

pub text_not_amp : is_text 38 ≡ false
unfolding is_text is_space
text_not_amp = refl

both_parts : (t u : Bool) → (t && not u) ≡ true → (t ≡ true) × (u ≡ false)
both_parts true false e = (refl, refl)
both_parts true true e = absurd (cc)
both_parts false u e = absurd (cc)

value_parts : (quote b : ℕ) → is_value quote b ≡ true → (is_text b ≡ true) × (eqb b quote ≡ false)
unfolding is_value
value_parts quote b e = both_parts (is_text b) (eqb b quote) e

no_tag_in_text : (b : ℕ) (t : Bool) → is_text b ≡ t → (t && not (eqb b 60)) ≡ t
no_tag_in_text b true holds = ap not (differ is_text b 60 holds text_not_tag)
no_tag_in_text b false fails = refl

-- a run of text is a value between two `<`
pub text_run : (text : List ℕ) (at : ℕ) → run_end (is_value 60) text at ≡ run_end is_text text at
unfolding is_value
text_run text at = ap (λ test. run_end test text at) (λ i b. no_tag_in_text b (is_text b) refl i)

text_turn : (text : List ℕ) (place : ℕ) (name : List ℕ) (names : Names) (at b : ℕ) → place ≤ at → StandsAt text at b → is_text b ≡ true → step (in_words place (slice_range text place at) name names) at b ≡ on [] (in_words place (slice_range text place (at + 1)) name names)
text_turn text place name names at b le stand holds =
    rw (differ is_text b 60 holds text_not_tag, differ is_text b 38 holds text_not_amp, holds)
    (ap (λ raw. on [] (in_words place raw name names)) (sym (slice_more text place at b le stand)))

-- the bytes of a run that stand for themselves
pub words_run : (text : List ℕ) (place : ℕ) (name : List ℕ) (names : Names) (at end : ℕ) → place ≤ at → end ≡ run_end is_text text at → answers_at text (in_words place (slice_range text place at) name names) at ≡ answers_at text (in_words place (slice_range text place end) name names) end
words_run text place name names at end le is =
    run_left text is_text (λ n. in_words place (slice_range text place n) name names) place (λ n b above stand holds. text_turn text place name names n b above stand holds) at le
    ∙ ap (λ n. answers_at text (in_words place (slice_range text place n) name names) n) (sym is)

-- a run begins
pub words_begin : (text name : List ℕ) (names : Names) (at end : ℕ) → BeginsWithout 60 (drop at text) → end ≡ run_end is_text text at → answers_at text (between (within name names)) at ≡ answers_at text (in_words at (slice_range text at end) name names) end
words_begin text name names at end bare is =
    let here : at ≤ at = omega arith in
    alike text (between (within name names)) (in_words at [] name names) at (λ _. refl)
    (λ b stand. let other : eqb b 60 ≡ false = other_byte text at b 60 stand bare in rw other refl)
    ∙ (ap (λ raw. answers_at text (in_words at raw name names) at) (sym (slice_none text at))
    ∙ words_run text at name names at end here is)

-- past an `&`, a reference and more bytes that stand for themselves
host_amp : (text : List ℕ) (h : Host) (place reference : ℕ) → step (host_state text h place) place 38 ≡ on [] (host_reference text h begun (place + 1)) → (reference ≡ place + 1) × StandsAt text place 38 → answers_at text (host_state text h place) place ≡ answers_at text (host_reference text h begun reference) reference
host_amp text h place reference turn is =
    left_on text (host_state text h place) (host_reference text h begun (place + 1)) place 38 [] is.1 turn
    ∙ ap (λ n. answers_at text (host_reference text h begun n) n) (sym is.0)

pub words_amp : (text : List ℕ) (place : ℕ) (name : List ℕ) (names : Names) (at reference : ℕ) → place ≤ at → (reference ≡ at + 1) × StandsAt text at 38 → answers_at text (in_words place (slice_range text place at) name names) at ≡ answers_at text (in_reference begun place (slice_range text place reference) name names) reference
words_amp text place name names at reference le is =
    host_amp text (of_run place name names) at reference (ap (λ raw. on [] (in_reference begun place raw name names)) (sym (slice_more text place at 38 le is.1))) is

pub value_amp : (text : List ℕ) (quote place : ℕ) (name : List ℕ) (from : ℕ) (names : Names) (at reference : ℕ) → from ≤ at → BeginsWithout quote (drop at text) → (reference ≡ at + 1) × StandsAt text at 38 → answers_at text (in_tag (valuing quote) place name (slice_range text from at) names) at ≡ answers_at text (in_tag (referring quote begun) place name (slice_range text from reference) names) reference
value_amp text quote place name from names at reference le bare is =
    host_amp text (of_value quote place name from names) at reference
    (let other : eqb 38 quote ≡ false = other_byte text at 38 quote is.1 bare in
    rw other (ap (λ raw. on [] (in_tag (referring quote begun) place name raw names)) (sym (slice_more text from at 38 le is.1))))
    is

-- no byte of a run of text stands there
pub words_off : (text : List ℕ) (place : ℕ) (name : List ℕ) (names : Names) (at p : ℕ) → FailsFirst is_text (drop at text) → BeginsWithout 60 (drop at text) → (p ≡ at) × BeginsWithout 38 (drop at text) → answers_at text (in_words place (slice_range text place at) name names) at ≡ form p ∷ []
words_off text place name names at p fails bare is =
    refused text (in_words place (slice_range text place at) name names) at (λ _. refl)
    (λ b stand. let tag : eqb b 60 ≡ false = other_byte text at b 60 stand bare in
    let amp : eqb b 38 ≡ false = other_byte text at b 38 stand is.1 in
    let none : is_text b ≡ false = fails_there is_text text at b stand fails in
    rw (tag, amp, none) refl)
    ∙ ap (λ n. form n ∷ []) (sym is.0)

value_turn : (text : List ℕ) (quote place : ℕ) (name : List ℕ) (from : ℕ) (names : Names) (at b : ℕ) → from ≤ at → StandsAt text at b → is_value quote b ≡ true → step (in_tag (valuing quote) place name (slice_range text from at) names) at b ≡ on [] (in_tag (valuing quote) place name (slice_range text from (at + 1)) names)
value_turn text quote place name from names at b le stand holds =
    let parts : (is_text b ≡ true) × (eqb b quote ≡ false) = value_parts quote b holds in
    rw (parts.1, differ is_text b 38 parts.0 text_not_amp, holds)
    (ap (λ raw. on [] (in_tag (valuing quote) place name raw names)) (sym (slice_more text from at b le stand)))

-- the bytes of a value that stand for themselves
pub value_run : (text : List ℕ) (quote place : ℕ) (name : List ℕ) (from : ℕ) (names : Names) (at end : ℕ) → from ≤ at → end ≡ run_end (is_value quote) text at → answers_at text (in_tag (valuing quote) place name (slice_range text from at) names) at ≡ answers_at text (in_tag (valuing quote) place name (slice_range text from end) names) end
value_run text quote place name from names at end le is =
    run_left text (is_value quote) (λ n. in_tag (valuing quote) place name (slice_range text from n) names) from (λ n b above stand holds. value_turn text quote place name from names n b above stand holds) at le
    ∙ ap (λ n. answers_at text (in_tag (valuing quote) place name (slice_range text from n) names) n) (sym is)

-- the closing quote
pub value_closes : (text : List ℕ) (quote place : ℕ) (name : List ℕ) (from : ℕ) (names : Names) (at end : ℕ) → from ≤ at → (end ≡ at + 1) × StandsAt text at quote → answers_at text (in_tag (valuing quote) place name (slice_range text from at) names) at ≡ answers_at text (in_tag valued place name (slice_range text from end) names) end
value_closes text quote place name from names at end le is =
    left_on text (in_tag (valuing quote) place name (slice_range text from at) names) (in_tag valued place name (slice_range text from (at + 1)) names) at quote [] is.1
    (rw (eqb_self quote) (ap (λ raw. on [] (in_tag valued place name raw names)) (sym (slice_more text from at quote le is.1))))
    ∙ ap (λ n. answers_at text (in_tag valued place name (slice_range text from n) names) n) (sym is.0)

-- no byte of a value stands there
pub value_off : (text : List ℕ) (quote place : ℕ) (name : List ℕ) (from : ℕ) (names : Names) (at p : ℕ) → FailsFirst (is_value quote) (drop at text) → BeginsWithout quote (drop at text) → (p ≡ at) × BeginsWithout 38 (drop at text) → answers_at text (in_tag (valuing quote) place name (slice_range text from at) names) at ≡ form p ∷ []
value_off text quote place name from names at p fails bare is =
    refused text (in_tag (valuing quote) place name (slice_range text from at) names) at (λ _. refl)
    (λ b stand. let closing : eqb b quote ≡ false = other_byte text at b quote stand bare in
    let amp : eqb b 38 ≡ false = other_byte text at b 38 stand is.1 in
    let none : is_value quote b ≡ false = fails_there (is_value quote) text at b stand fails in
    rw (closing, amp, none) refl)
    ∙ ap (λ n. form n ∷ []) (sym is.0)
