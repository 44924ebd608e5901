-- What each step of the table of well-formed bytes says of its byte.
use Rattle.std.proofs.Common.{◌≡◌, ℕ, ◌<◌, ◌≤◌, Bool, true, cond, ltb, eqb, Option, Some, None, refl, sym, ◌∙◌, subst, arith, ltb-true, eqb-true, lt-ltb, true≢false}
use Rattle.std.proofs.lemmas.Bool.{cond_both, and_parts, and_from, leb-true, le-leb, eq-eqb}
use Rattle.std.proofs.lemmas.Bool.Decides.{nat_tests}
use Rattle.markup_grammar.specs.Utf8.{Partial, none_left, one, two, two_low, two_high, three, three_low, three_high, lies_in, utf8_step}

-- the byte lies between these two
abbrev pub Lies : ℕ → ℕ → ℕ → Type 0
Lies least most b = (least ≤ b) × (b ≤ most)

-- the byte takes the first state to the second
abbrev pub Steps : Partial → ℕ → Partial → Type 0
Steps none_left b none_left = b < 0x80
Steps none_left b one = Lies 0xC2 0xDF b
Steps none_left b two_high = b ≡ 0xE0
Steps none_left b two_low = b ≡ 0xED
Steps none_left b two = Lies 0xE1 0xEF b × (b ≡ 0xED → ⊥)
Steps none_left b three_high = b ≡ 0xF0
Steps none_left b three = Lies 0xF1 0xF3 b
Steps none_left b three_low = b ≡ 0xF4
Steps one b none_left = Lies 0x80 0xBF b
Steps two b one = Lies 0x80 0xBF b
Steps two_low b one = Lies 0x80 0x9F b
Steps two_high b one = Lies 0xA0 0xBF b
Steps three b two = Lies 0x80 0xBF b
Steps three_low b two = Lies 0x80 0x8F b
Steps three_high b two = Lies 0x90 0xBF b
Steps _ _ _ = ⊥

abbrev StepsTo : Partial → ℕ → Option Partial → Type 0
StepsTo state b None = Unit {0}
StepsTo state b (Some next) = Steps state b next

pub lies_tells : (least most b : ℕ) → lies_in least most b ≡ true → Lies least most b
lies_tells least most b h = let both = and_parts _ _ h in (leb-true _ _ both.0, leb-true _ _ both.1)

pub lies_test : (least most b : ℕ) → Lies least most b → lies_in least most b ≡ true
lies_test least most b h = and_from _ _ (le-leb _ _ h.0) (le-leb _ _ h.1)

within : (state : Partial) (least most b : ℕ) (next : Partial) → (Lies least most b → Steps state b next) → StepsTo state b (cond (lies_in least most b) (Some next) None)
within state least most b next said =
    cond_both (lies_in least most b) (Some next) None (StepsTo state b) (λ h. said (lies_tells least most b h)) (λ _. tt)

tells : (state : Partial) (b : ℕ) → StepsTo state b (utf8_step state b)
unfolding utf8_step
tells none_left b =
    cond_both (ltb b 0x80) _ _ (StepsTo none_left b) (λ h. ltb-true _ _ h)
    (λ _. cond_both (lies_in 0xC2 0xDF b) _ _ (StepsTo none_left b) (λ h. lies_tells 0xC2 0xDF b h)
    (λ _. cond_both (eqb b 0xE0) _ _ (StepsTo none_left b) (λ h. eqb-true _ _ h)
    (λ _. cond_both (eqb b 0xED) _ _ (StepsTo none_left b) (λ h. eqb-true _ _ h)
    (λ other. cond_both (lies_in 0xE1 0xEF b) _ _ (StepsTo none_left b) (λ h. (lies_tells 0xE1 0xEF b h, λ same. true≢false (sym (eq-eqb b 0xED same) ∙ other)))
    (λ _. cond_both (eqb b 0xF0) _ _ (StepsTo none_left b) (λ h. eqb-true _ _ h)
    (λ _. cond_both (lies_in 0xF1 0xF3 b) _ _ (StepsTo none_left b) (λ h. lies_tells 0xF1 0xF3 b h)
    (λ _. cond_both (eqb b 0xF4) (Some three_low) None (StepsTo none_left b) (λ h. eqb-true _ _ h) (λ _. tt))))))))
tells one b = within one 0x80 0xBF b none_left (λ h. h)
tells two b = within two 0x80 0xBF b one (λ h. h)
tells two_low b = within two_low 0x80 0x9F b one (λ h. h)
tells two_high b = within two_high 0xA0 0xBF b one (λ h. h)
tells three b = within three 0x80 0xBF b two (λ h. h)
tells three_low b = within three_low 0x80 0x8F b two (λ h. h)
tells three_high b = within three_high 0x90 0xBF b two (λ h. h)

-- a step that is taken says where the byte lies
pub step_tells : (state : Partial) (b : ℕ) (next : Partial) → utf8_step state b ≡ Some next → Steps state b next
step_tells state b next h = let P : Option Partial → Type 0 = λ o. StepsTo state b o in subst P h (tells state b)

on_true : {A : Type 0} (t : Bool) (x y : A) → t ≡ true → cond t x y ≡ x
on_true t x y h = rw h refl

-- and a byte that lies there takes it
pub steps : (state : Partial) (b : ℕ) (next : Partial) → Steps state b next → utf8_step state b ≡ Some next
unfolding utf8_step
steps none_left b none_left h = on_true _ _ _ (lt-ltb b 0x80 h)
steps none_left b one h = grind (arith, nat_tests)
steps none_left b two_high h = grind (arith, nat_tests)
steps none_left b two_low h = grind (arith, nat_tests)
steps none_left b two h = grind (arith, nat_tests)
steps none_left b three_high h = grind (arith, nat_tests)
steps none_left b three h = grind (arith, nat_tests)
steps none_left b three_low h = grind (arith, nat_tests)
steps one b none_left h = on_true _ _ _ (lies_test 0x80 0xBF b h)
steps two b one h = on_true _ _ _ (lies_test 0x80 0xBF b h)
steps two_low b one h = on_true _ _ _ (lies_test 0x80 0x9F b h)
steps two_high b one h = on_true _ _ _ (lies_test 0xA0 0xBF b h)
steps three b two h = on_true _ _ _ (lies_test 0x80 0xBF b h)
steps three_low b two h = on_true _ _ _ (lies_test 0x80 0x8F b h)
steps three_high b two h = on_true _ _ _ (lies_test 0x90 0xBF b h)
steps _ b _ h = absurd h
