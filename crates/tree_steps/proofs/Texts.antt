-- The parts of a path before and after its last slash.
use Rattle.std.proofs.Common.{◌≡◌, ◌≢◌, ◌<◌, ◌≤◌, ◌+◌, ◌-◌, ◌==◌, ◌||◌, ℕ, suc, zero, Bool, true, false, cond, List, [], ◌∷◌, ◌++◌, length, get_or, take, drop, MatchOption, Option, None, Some, refl, subst, sym, ap, ◌∙◌, arith}
use Rattle.std.proofs.Math.Seq.{drop-cons}
use Rattle.std.proofs.lemmas.List.{take-append-drop}
use Rattle.std.proofs.Common.{length-drop}
use Rattle.std.proofs.lemmas.Bool.Decides.{Decides-eqb}
use Rattle.std.proofs.lemmas.Option.{same_Some}
use Rattle.std.specs.Str.{IsCharBoundary}
use Rattle.std.specs.Str.Pattern.{RFindsChar}
use Rattle.tree_core.proofs.Options.{never}
use Rattle.vault_model.proofs.Tests.{is_false, or_right}
use Rattle.tree_core.specs.NewPaths.{after_last, before_last, has_slash}

slash_there : (xs ys : List ℕ) → has_slash (xs ++ 47 ∷ ys) ≡ true
slash_there [] ys = refl
slash_there (x ∷ xs) ys = or_right (x == 47) (has_slash (xs ++ 47 ∷ ys)) (slash_there xs ys)

-- a path cut at a slash ends as the part after the slash does
pub after_cut : (xs ys : List ℕ) → after_last (xs ++ 47 ∷ ys) ≡ after_last ys
after_cut [] ys = refl
after_cut (x ∷ xs) ys =
    ap (λ b. cond b (after_last (xs ++ 47 ∷ ys)) (x ∷ (xs ++ 47 ∷ ys))) (slash_there (x ∷ xs) ys) ∙ after_cut xs ys

no_slash : (bs : List ℕ) → ((i : ℕ) → i < length bs → get_or bs i 0 ≢ 47) → has_slash bs ≡ false
no_slash [] off = refl
no_slash (b ∷ bs) off =
    let here : (b == 47) ≡ false = is_false (b == 47) (λ e. off 0 (omega arith) ((Decides-eqb b 47).0 e)) in
    ap (λ c. c || has_slash bs) here ∙ no_slash bs (λ i less. off (suc i) (omega arith))

whole : (bs : List ℕ) → has_slash bs ≡ false → after_last bs ≡ bs
whole [] off = refl
whole (b ∷ bs) off = ap (λ c. cond c (after_last bs) (b ∷ bs)) off

-- without a slash it is all name
pub all_name : (bs : List ℕ) → ((i : ℕ) → i < length bs → get_or bs i 0 ≢ 47) → after_last bs ≡ bs
all_name bs off = whole bs (no_slash bs off)

slash_last : (xs : List ℕ) (b : ℕ) → has_slash (xs ++ b ∷ []) ≡ (has_slash xs || (b == 47))
slash_last [] b = none (b == 47)
  where
    none : (c : Bool) → (c || false) ≡ (false || c)
    none true = refl
    none false = refl
slash_last (x ∷ xs) b = ap (λ c. (x == 47) || c) (slash_last xs b) ∙ sym (or_assoc (x == 47) (has_slash xs) (b == 47))
  where
    or_assoc : (a c d : Bool) → ((a || c) || d) ≡ (a || (c || d))
    or_assoc true c d = refl
    or_assoc false c d = refl

or_true : (a b : Bool) → b ≡ true → (a || b) ≡ true
or_true = or_right

or_none : (a b : Bool) → b ≡ false → (a || b) ≡ a
or_none true b e = refl
or_none false b e = e

-- a path that ends with a slash
pub before_slash : (xs : List ℕ) (b : ℕ) → b ≡ 47 → before_last (xs ++ b ∷ []) ≡ xs
before_slash [] b is = refl
before_slash (x ∷ xs) b is =
    ap (λ c. cond c (x ∷ before_last (xs ++ b ∷ [])) []) (slash_last xs b ∙ or_true (has_slash xs) (b == 47) ((Decides-eqb b 47).1 is))
    ∙ ap (λ ys. x ∷ ys) (before_slash xs b is)

-- a path that ends with another byte
pub before_other : (xs : List ℕ) (b : ℕ) → b ≢ 47 → before_last (xs ++ b ∷ []) ≡ before_last xs
before_other [] b off = refl
before_other (x ∷ xs) b off =
    ap (λ c. cond c (x ∷ before_last (xs ++ b ∷ [])) []) (slash_last xs b ∙ or_none (has_slash xs) (b == 47) (is_false (b == 47) (λ e. off ((Decides-eqb b 47).0 e))))
    ∙ ap (λ ys. cond (has_slash xs) (x ∷ ys) []) (before_other xs b off)

get_drop : (bs : List ℕ) (k i d : ℕ) → get_or (drop k bs) i d ≡ get_or bs (k + i) d
get_drop bs zero i d = let same : i ≡ 0 + i = omega arith in ap (λ n. get_or bs n d) same
get_drop [] (suc k) i d = refl
get_drop (b ∷ bs) (suc k) i d =
    let next : suc (k + i) ≡ suc k + i = omega arith in
    get_drop bs k i d ∙ ap (λ n. get_or (b ∷ bs) n d) next

-- the last slash of a path
pub after_found : (bs : List ℕ) (k : ℕ) → k < length bs → get_or bs k 0 ≡ 47 → ((i : ℕ) → k < i → i < length bs → get_or bs i 0 ≢ 47) → drop (k + 1) bs ≡ after_last bs
after_found bs k less is off =
    let cut : drop k bs ≡ 47 ∷ drop (suc k) bs = drop-cons bs k 0 less ∙ ap (λ b. b ∷ drop (suc k) bs) is in
    let next : k + 1 ≡ suc k = omega arith in
    ap (λ n. drop n bs) next
    ∙ sym (all_name (drop (suc k) bs) (λ i within. λ e. off (suc k + i) (omega arith) (omega (arith, length-drop (suc k) bs, within)) (sym (get_drop bs (suc k) i 0) ∙ e)))
    ∙ sym (after_cut (take k bs) (drop (suc k) bs))
    ∙ ap after_last (ap (λ ys. take k bs ++ ys) (sym cut) ∙ take-append-drop k bs)

-- a path may be cut after its last slash
pub cut_found : (bs : List ℕ) (at : ℕ) (r : Option ℕ)
    → MatchOption r (RFindsChar 47 bs None) (λ i. (j : ℕ) × RFindsChar 47 bs (Some (i, j)) × (i ≤ j) × IsCharBoundary bs i × IsCharBoundary bs j) → r ≡ Some at → IsCharBoundary bs (at + 1)
cut_found bs at None h e = never at e
cut_found bs at (Some i) h e = subst (λ n. IsCharBoundary bs (n + 1)) (same_Some i at e) h.1.1.after

-- a list that is not empty is all but its last item, and that
pub last_cut : (xs : List ℕ) → 0 < length xs → xs ≡ take (length xs - 1) xs ++ get_or xs (length xs - 1) 0 ∷ []
last_cut [] some = absurd (omega arith)
last_cut (x ∷ []) some = refl
last_cut (x ∷ y ∷ ys) some =
    let next : length (x ∷ y ∷ ys) - 1 ≡ suc (length (y ∷ ys) - 1) = omega arith in
    ap (λ zs. x ∷ zs) (last_cut (y ∷ ys) (omega arith))
    ∙ ap (λ n. take n (x ∷ y ∷ ys) ++ get_or (x ∷ y ∷ ys) n 0 ∷ []) (sym next)

pub cut_at_slash : (xs : List ℕ) → 0 < length xs → get_or xs (length xs - 1) 0 ≡ 47 → take (length xs - 1) xs ≡ before_last xs
cut_at_slash xs some is = sym (before_slash (take (length xs - 1) xs) (get_or xs (length xs - 1) 0) is) ∙ ap before_last (sym (last_cut xs some))

pub cut_at_other : (xs : List ℕ) → 0 < length xs → get_or xs (length xs - 1) 0 ≢ 47 → before_last xs ≡ before_last (take (length xs - 1) xs)
cut_at_other xs some off = ap before_last (last_cut xs some) ∙ before_other (take (length xs - 1) xs) (get_or xs (length xs - 1) 0) off
