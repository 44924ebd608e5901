-- The bytes that a stream gave are the first of those that it reported, where it is truthful after it.
use Rattle.std.proofs.Common.{◌≡◌, Bool, true, false, ◌&&◌, List, ℕ, ◌≤◌, ◌++◌, length, take, drop, Some, Result, Ok, Err, IfOk, OnOk, refl, sym, ap, ◌∙◌}
use Rattle.std.proofs.lemmas.List.{take-append-drop, length-take-le}
use Rattle.std.proofs.lemmas.Slice.Eq.{bytes_eq-Decides}
use Rattle.outside_host.specs.Answers.{begins_with, agrees_read, agrees_fill, after_read, after_fill}

pub first_of : (a b : Bool) → (a && b) ≡ true → a ≡ true
first_of true b e = refl
first_of false b e = cc

-- The bytes that a stream begins with come before the others.
pub begins : (bytes left : List ℕ) (n : ℕ) → length bytes ≡ n → begins_with bytes left ≡ true → left ≡ bytes ++ drop n left
begins bytes left n long e =
    sym (take-append-drop (length bytes) left)
    ∙ ap (λ l. l ++ drop (length bytes) left) ((bytes_eq-Decides (take (length bytes) left) bytes).0 e)
    ∙ ap (λ k. bytes ++ drop k left) long

pub fill_told : {T E : Type 0} (result : Result T E) (out before now : List ℕ) (was is : Bool) → is ≡ (agrees_fill out result before && was)
    → now ≡ after_fill out result before → is ≡ true → OnOk result (Some before ≡ Some (out ++ now))
fill_told (Ok filled) out before now was is agrees left truthful =
    ap Some (begins out before (length out) refl (first_of _ was (sym agrees ∙ truthful)) ∙ ap (λ l. out ++ l) (sym left))
fill_told (Err fail) out before now was is agrees left truthful = tt

pub read_told : {E : Type 0} (result : Result ℕ E) (out before now : List ℕ) (was is : Bool) → IfOk result (λ n. n ≤ length out)
    → is ≡ (agrees_read out result before && was) → now ≡ after_read result before → is ≡ true
    → IfOk result (λ n. Some before ≡ Some (take n out ++ now))
read_told (Ok n) out before now was is bound agrees left truthful =
    ap Some (begins (take n out) before n (length-take-le n out bound) (first_of _ _ (first_of _ was (sym agrees ∙ truthful)))
    ∙ ap (λ l. take n out ++ l) (sym left))
read_told (Err fail) out before now was is bound agrees left truthful = tt
