-- Parts between marks, one part on.
use Rattle.std.proofs.Common.{◌≡◌, ℕ, suc, ◌+◌, ◌<◌, ◌≤◌, List, [], ◌∷◌, length, take, drop, refl, sym, ap, ◌∙◌, arith, Bool, true, false, cond, not, nat_eq, nat_lt, Option, None, Some, option_map, ◌⊎◌, inl, inr, length-drop}
use Rattle.std.proofs.lemmas.List.{length-take-le}
use Rattle.std.proofs.lemmas.Bool.{cond-true, cond-false, lt-ltb, le-ltb, ltb-true, ltb-false}
use Rattle.std.specs.List.{position_or_len}
use Rattle.otp_core.specs.Reading.{prefix_before, suffix_after, parts_between, onto_first}

no_part : (mark : ℕ) → parts_between mark [] ≡ [] ∷ []
unfolding parts_between
no_part mark = refl

part_hit : (mark b : ℕ) (text : List ℕ) → nat_eq b mark ≡ true → parts_between mark (b ∷ text) ≡ [] ∷ parts_between mark text
unfolding parts_between
part_hit mark b text is = cond-true (nat_eq b mark) _ _ is

part_miss : (mark b : ℕ) (text : List ℕ) → nat_eq b mark ≡ false → parts_between mark (b ∷ text) ≡ onto_first b (parts_between mark text)
unfolding parts_between
part_miss mark b text is = cond-false (nat_eq b mark) _ _ is

before_hit : (mark b : ℕ) (text : List ℕ) → nat_eq b mark ≡ true → prefix_before mark (b ∷ text) ≡ []
before_hit mark b text is = ap (λ (t : Bool). take (cond (not t) (1 + position_or_len (λ x. nat_eq x mark) text) 0) (b ∷ text)) is

before_miss : (mark b : ℕ) (text : List ℕ) → nat_eq b mark ≡ false → prefix_before mark (b ∷ text) ≡ b ∷ prefix_before mark text
before_miss mark b text is =
    let e : 1 + position_or_len (λ (x : ℕ). nat_eq x mark) text ≡ suc (position_or_len (λ (x : ℕ). nat_eq x mark) text) = omega arith in
    ap (λ (t : Bool). take (cond (not t) (1 + position_or_len (λ x. nat_eq x mark) text) 0) (b ∷ text)) is ∙ ap (λ (k : ℕ). take k (b ∷ text)) e

after_hit : (mark b : ℕ) (text : List ℕ) → nat_eq b mark ≡ true → suffix_after mark (b ∷ text) ≡ Some text
after_hit mark b text is = ap (λ (t : Bool). option_map (λ (i : ℕ). drop (i + 1) (b ∷ text))
    (cond (nat_lt (cond (not t) (1 + position_or_len (λ (x : ℕ). nat_eq x mark) text) 0) (length (b ∷ text)))
    (Some (cond (not t) (1 + position_or_len (λ (x : ℕ). nat_eq x mark) text) 0)) None)) is
    ∙ ap (λ (t : Bool). option_map (λ (i : ℕ). drop (i + 1) (b ∷ text)) (cond t (Some 0) None)) (lt-ltb 0 (suc (length text)) (omega arith))

tells : (b : Bool) → (b ≡ true) ⊎ (b ≡ false)
tells true = inl refl
tells false = inr refl

both_less : (n m : ℕ) → (nat_lt n m ≡ true) ⊎ (nat_lt n m ≡ false) → nat_lt (suc n) (suc m) ≡ nat_lt n m
both_less n m (inl less) = let h : n < m = ltb-true n m less in lt-ltb (suc n) (suc m) (omega (arith, h)) ∙ sym less
both_less n m (inr more) = let h : m ≤ n = ltb-false n m more in le-ltb (suc n) (suc m) (omega (arith, h)) ∙ sym more

one_on : (is : Bool) (n b : ℕ) (text : List ℕ)
    → option_map (λ (i : ℕ). drop (i + 1) (b ∷ text)) (cond is (Some (suc n)) None) ≡ option_map (λ (i : ℕ). drop (i + 1) text) (cond is (Some n) None)
one_on false n b text = refl
one_on true n b text = let e : suc n + 1 ≡ suc (n + 1) = omega arith in ap (λ (k : ℕ). Some (drop k (b ∷ text))) e

after_miss : (mark b : ℕ) (text : List ℕ) → nat_eq b mark ≡ false → suffix_after mark (b ∷ text) ≡ suffix_after mark text
after_miss mark b text is =
    let e : 1 + position_or_len (λ (x : ℕ). nat_eq x mark) text ≡ suc (position_or_len (λ (x : ℕ). nat_eq x mark) text) = omega arith in
    ap (λ (t : Bool). option_map (λ (i : ℕ). drop (i + 1) (b ∷ text))
    (cond (nat_lt (cond (not t) (1 + position_or_len (λ (x : ℕ). nat_eq x mark) text) 0) (length (b ∷ text)))
    (Some (cond (not t) (1 + position_or_len (λ (x : ℕ). nat_eq x mark) text) 0)) None)) is
    ∙ ap (λ (k : ℕ). option_map (λ (i : ℕ). drop (i + 1) (b ∷ text)) (cond (nat_lt k (length (b ∷ text))) (Some k) None)) e
    ∙ ap (λ (t : Bool). option_map (λ (i : ℕ). drop (i + 1) (b ∷ text)) (cond t (Some (suc (position_or_len (λ (x : ℕ). nat_eq x mark) text))) None))
    (both_less (position_or_len (λ (x : ℕ). nat_eq x mark) text) (length text) (tells _))
    ∙ one_on (nat_lt (position_or_len (λ (x : ℕ). nat_eq x mark) text) (length text)) _ b text

-- the parts after the first, if there are more
unfoldable pub more : ℕ → Option (List ℕ) → List (List ℕ)
more mark None = []
more mark (Some rest) = parts_between mark rest

abbrev pub Split : ℕ → List ℕ → Type 0
Split mark text = parts_between mark text ≡ prefix_before mark text ∷ more mark (suffix_after mark text)

split_at : (mark b : ℕ) (text : List ℕ) → Split mark text → (nat_eq b mark ≡ true) ⊎ (nat_eq b mark ≡ false) → Split mark (b ∷ text)
unfolding more
split_at mark b text rest (inl hit) = part_hit mark b text hit
    ∙ ap (λ (o : Option (List ℕ)). [] ∷ more mark o) (sym (after_hit mark b text hit))
    ∙ ap (λ (p : List ℕ). p ∷ more mark (suffix_after mark (b ∷ text))) (sym (before_hit mark b text hit))
split_at mark b text rest (inr miss) = part_miss mark b text miss ∙ ap (onto_first b) rest
    ∙ ap (λ (o : Option (List ℕ)). (b ∷ prefix_before mark text) ∷ more mark o) (sym (after_miss mark b text miss))
    ∙ ap (λ (p : List ℕ). p ∷ more mark (suffix_after mark (b ∷ text))) (sym (before_miss mark b text miss))

pub split : (mark : ℕ) (text : List ℕ) → Split mark text
unfolding more
split mark [] = no_part mark
split mark (b ∷ text) = split_at mark b text (split mark text) (tells (nat_eq b mark))

pub last_part : (mark : ℕ) (text : List ℕ) → suffix_after mark text ≡ None → parts_between mark text ≡ prefix_before mark text ∷ []
unfolding more
last_part mark text is = split mark text ∙ ap (λ (o : Option (List ℕ)). prefix_before mark text ∷ more mark o) is

pub next_part : (mark : ℕ) (text rest : List ℕ) → suffix_after mark text ≡ Some rest → parts_between mark text ≡ prefix_before mark text ∷ parts_between mark rest
unfolding more
next_part mark text rest is = split mark text ∙ ap (λ (o : Option (List ℕ)). prefix_before mark text ∷ more mark o) is

cut : (text rest : List ℕ) (n : ℕ) (is : Bool) → (is ≡ true → n < length text)
    → option_map (λ (i : ℕ). drop (i + 1) text) (cond is (Some n) None) ≡ Some rest → length (take n text) + 1 + length rest ≡ length text
cut text rest n true below some =
    let e : drop (n + 1) text ≡ rest = cc in
    let l : length (take n text) ≡ n = length-take-le n text (omega (arith, below refl)) in
    omega (arith, below refl, l, ap length e, length-drop (n + 1) text)
cut text rest n false below some = let e : None ≡ Some rest = some in cc

-- A text is its first part, the mark and what follows.
pub cut_len : (mark : ℕ) (text rest : List ℕ) → suffix_after mark text ≡ Some rest → length (prefix_before mark text) + 1 + length rest ≡ length text
cut_len mark text rest some = cut text rest (position_or_len (λ (x : ℕ). nat_eq x mark) text)
    (nat_lt (position_or_len (λ (x : ℕ). nat_eq x mark) text) (length text)) (λ is. ltb-true _ _ is) some
