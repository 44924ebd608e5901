-- Whether a text contains another, from place to place.
use Rattle.std.proofs.Common.{◌≡◌, ◌<◌, ◌≤◌, ℕ, suc, ◌+◌, ◌-◌, true, false, ◌||◌, List, [], ◌∷◌, length, take, drop, get_or, sym, ap, ◌∙◌, add-one, arith, length-drop, take_all}
use Rattle.std.proofs.Math.Seq.{drop-cons}
use Rattle.find_core.specs.Folding.{begins_with, contains}

pub contained_here : (text part : List ℕ) → begins_with text part ≡ true → contains text part ≡ true
contained_here [] part h = h
contained_here (b ∷ bs) part h = ap (λ x. x || contains bs part) h

not_here : (b : ℕ) (bs part : List ℕ) → begins_with (b ∷ bs) part ≡ false → contains (b ∷ bs) part ≡ contains bs part
not_here b bs part h = ap (λ x. x || contains bs part) h

pub contained_later : (text part : List ℕ) (i : ℕ) → i < length text → begins_with (drop i text) part ≡ false
    → contains (drop i text) part ≡ contains (drop (i + 1) text) part
contained_later text part i below h =
    let b = get_or text i 0 in
    let rest = drop (suc i) text in
    let front : drop i text ≡ b ∷ rest = drop-cons text i 0 below in
    ap (λ l. contains l part) front
    ∙ not_here b rest part (ap (λ l. begins_with l part) (sym front) ∙ h)
    ∙ ap (λ k. contains (drop k text) part) (sym (add-one i))

-- what is left of a text from a place on
pub rest_from : (n : ℕ) (text : List ℕ) → take (length text - n) (drop n text) ≡ drop n text
rest_from n text =
    let long : length (drop n text) ≤ length text - n = omega (arith, length-drop n text) in
    take_all (length text - n) (drop n text) long
