-- The host of a URL, cut out step by step.
use Rattle.std.proofs.Common.{◌≡◌, ◌≢◌, ◌<◌, ◌≤◌, ◌==◌, ℕ, suc, zero, Bool, true, false, cond, List, [], ◌∷◌, ◌++◌, Bor, MatchOption, Option, Some, None, length, drop, get_or, inl, inr, refl, sym, ap, subst, ◌∙◌, arith}
use Rattle.std.specs.Prelude.{codes}
use Rattle.std.proofs.lemmas.Bool.{ne_eqb}
use Rattle.std.proofs.lemmas.Bool.Decides.{Decides-eqb}
use Rattle.std.proofs.lemmas.List.{take_all}
use Rattle.std.proofs.lemmas.Slice.Eq.{starts_is}
use Rattle.std.proofs.lemmas.Str.Pattern.{IsSplitOnceResult, split_once_first}
use Rattle.std.specs.List.{list_any, position_or_len}
use Rattle.vault_model.proofs.Tests.{decide, or_right}
use Rattle.table_reading.specs.Cells.{after_last, after_mark, is_at_mark, up_to}

-- ---- up to the first of a byte

pub up_to_found : (c : ℕ) (text : List ℕ) (r : Option (Bor (List ℕ) × Bor (List ℕ))) → IsSplitOnceResult c text r → c < 128
    → MatchOption r (text ≡ up_to c text) (λ x. x.0.now ≡ up_to c text)
up_to_found c text None h small =
    let none = split_once_first c text None h small in
    sym (take_all (position_or_len (λ b. b == c) text) text (omega (arith, none)))
up_to_found c text (Some x) h small = (split_once_first c text (Some x) h small).1

-- ---- after the last of a byte

none_any : (c : ℕ) (text : List ℕ) → ((i : ℕ) → i < length text → get_or text i 0 ≢ c) → list_any (λ b. b == c) text ≡ false
none_any c [] h = refl
none_any c (b ∷ bs) h = rw (ne_eqb b c (h 0 (omega arith))) (none_any c bs (λ i less. h (suc i) (omega (arith, less))))

pub after_none : (c : ℕ) (text : List ℕ) → ((i : ℕ) → i < length text → get_or text i 0 ≢ c) → text ≡ after_last c text
after_none c [] h = refl
after_none c (b ∷ bs) h = ap (λ (any : Bool). cond any (after_last c bs) (b ∷ bs)) (sym (none_any c (b ∷ bs) h))

some_any : (front later : List ℕ) → list_any (λ b. b == 64) (front ++ 64 ∷ later) ≡ true
some_any [] later = refl
some_any (b ∷ bs) later = or_right (b == 64) (list_any (λ b. b == 64) (bs ++ 64 ∷ later)) (some_any bs later)

after_one : (front later : List ℕ) → after_last 64 (front ++ 64 ∷ later) ≡ after_last 64 later
after_one [] later = refl
after_one (b ∷ bs) later =
    ap (λ (any : Bool). cond any (after_last 64 (bs ++ 64 ∷ later)) (b ∷ (bs ++ 64 ∷ later))) (some_any (b ∷ bs) later)
    ∙ after_one bs later

pub after_some : (text front later : List ℕ) → text ≡ front ++ 64 ∷ later → after_last 64 later ≡ after_last 64 text
after_some text front later is = sym (ap (after_last 64) is ∙ after_one front later)

-- ---- after the first mark

abbrev mark : List ℕ
mark = codes "://"

not_mark : (text : List ℕ) → ((rest : List ℕ) → text ≢ mark ++ rest) → is_at_mark text ≡ false
not_mark text h = elim (decide (is_at_mark text)) [
  | inl same ↦ absurd (h (drop 3 text) ((starts_is Decides-eqb text mark (is_at_mark text) refl).0 same))
  | inr other ↦ other
]

pub mark_none : (other text : List ℕ) → ((i : ℕ) → i ≤ length text → (rest : List ℕ) → drop i text ≢ mark ++ rest) → other ≡ after_mark other text
mark_none other [] h = refl
mark_none other (b ∷ bs) h =
    let later = mark_none other bs (λ i few rest. h (suc i) (omega (arith, few)) rest) in
    later ∙ ap (λ (here : Bool). cond here (drop 3 (b ∷ bs)) (after_mark other bs)) (sym (not_mark (b ∷ bs) (h 0 (omega arith))))

nothing_here : (i : ℕ) (rest : List ℕ) → drop i [] ≢ mark ++ rest
nothing_here zero rest e = cc e
nothing_here (suc i) rest e = cc e

pub mark_some : (other text : List ℕ) (i : ℕ) (rest : List ℕ) → ((k : ℕ) → k < i → (rest : List ℕ) → drop k text ≢ mark ++ rest) → drop i text ≡ mark ++ rest
    → rest ≡ after_mark other text
mark_some other [] i rest before here = absurd (nothing_here i rest here)
mark_some other (b ∷ bs) zero rest before here = subst (λ (t : List ℕ). rest ≡ after_mark other t) (sym here) refl
mark_some other (b ∷ bs) (suc i) rest before here =
    let later = mark_some other bs i rest (λ k less r. before (suc k) (omega (arith, less)) r) here in
    later ∙ ap (λ (at : Bool). cond at (drop 3 (b ∷ bs)) (after_mark other bs)) (sym (not_mark (b ∷ bs) (before 0 (omega arith))))
