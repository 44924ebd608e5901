-- Texts cut at the place of a byte.
use Rattle.std.proofs.Common.{◌≡◌, ℕ, ◌+◌, ◌-◌, List, length, take, drop, refl, sym, ap, ◌∙◌, arith, Bool, true, false, cond, nat_eq, None, Some, option_map, length-drop}
use Rattle.std.proofs.lemmas.Option.{cond_some}
use Rattle.std.proofs.lemmas.Bool.{ltb-false}
use Rattle.std.proofs.lemmas.List.{take_all}
use Rattle.std.specs.List.{position}
use Rattle.otp_core.specs.Reading.{prefix_before, suffix_after}

not_some : {A : Type 0} (b : Bool) (x : A) → None ≡ cond b (Some x) None → b ≡ false
not_some true x is = cc
not_some false x is = refl

pub before_place : (mark i : ℕ) (text : List ℕ) → Some i ≡ position (λ b. nat_eq b mark) text → take i text ≡ prefix_before mark text
before_place mark i text is = ap (λ (k : ℕ). take k text) (sym (cond_some _ _ _ (sym is)).1)

pub before_none : (mark : ℕ) (text : List ℕ) → None ≡ position (λ b. nat_eq b mark) text → text ≡ prefix_before mark text
before_none mark text is = sym (take_all _ text (ltb-false _ _ (not_some _ _ is)))

pub after_place : (mark i : ℕ) (text : List ℕ) → Some i ≡ position (λ b. nat_eq b mark) text → suffix_after mark text ≡ Some (take (length text - (i + 1)) (drop (i + 1) text))
after_place mark i text is =
    ap (option_map (λ (k : ℕ). drop (k + 1) text)) (sym is) ∙ ap Some (sym (take_all (length text - (i + 1)) (drop (i + 1) text) (omega (arith, length-drop (i + 1) text))))

pub after_none : (mark : ℕ) (text : List ℕ) → None ≡ position (λ b. nat_eq b mark) text → suffix_after mark text ≡ None
after_none mark text is = ap (option_map (λ (k : ℕ). drop (k + 1) text)) (sym is)
