-- What is spelled is read: parts, and steps that are repeated.
use Rattle.std.proofs.Common.{◌≡◌, ℕ, zero, suc, ◌<◌, Bool, true, false, List, [], ◌∷◌, ◌++◌, length, Result, Ok, Err, refl, ◌∙◌, ap, arith, append_assoc, length-append}
use Rattle.std.specs.Prelude.{nat_lt, bytes_eq}
use Rattle.std.specs.List.{flat_map, AllByRecursion}
use Rattle.std.proofs.lemmas.Bool.{le-ltb, eq-eqb}
use Rattle.std.proofs.lemmas.List.{take_at, drop_at}
use Rattle.outside_core.specs.Results.{◌>>=◌, repeat_steps}
use Rattle.kdbx_parts.specs.declared.fail.FrameFail.{FrameFail}
use Rattle.kdbx_parts.specs.Parts.{split_bytes}

-- A reading that is not refused goes on.
pub then_ok : {A B : Type 0} (r : Result A FrameFail) (x : A) (next : A → Result B FrameFail) → r ≡ Ok x → (r >>= next) ≡ next x
then_ok r x next h = rw h refl

-- The bytes that come first are split off.
pub split_again : (fail : FrameFail) (n : ℕ) (xs ys : List ℕ) → length xs ≡ n → split_bytes fail n (xs ++ ys) ≡ Ok (xs, ys)
split_again fail n xs ys h =
    let enough : nat_lt (length (xs ++ ys)) n ≡ false = le-ltb (length (xs ++ ys)) n (omega (arith, length-append xs ys, h)) in
    rw (enough, take_at xs ys n h, drop_at xs ys n h) refl

-- Bytes equal themselves.
pub same_bytes : (xs : List ℕ) → bytes_eq xs xs ≡ true
same_bytes [] = refl
same_bytes (x ∷ xs) = rw (eq-eqb x x refl, same_bytes xs) refl

-- What things say one after another is added one after another.
unfoldable pub folded : {A P : Type 0} → (P → A → Result P FrameFail) → P → List A → Result P FrameFail
folded add p [] = Ok p
folded add p (a ∷ more) = add p a >>= λ q. folded add q more

-- One step of a reading that is not the last.
one_more : {P S : Type 0} (step : S → Result (Bool × S) FrameFail) (out : S → FrameFail) (at : P → S) (n : ℕ) (s : S) (rest : P → Result S FrameFail) (r : Result P FrameFail)
    → step s ≡ (r >>= λ q. Ok (false, at q)) → ((q : P) → repeat_steps step out n (at q) ≡ rest q)
    → repeat_steps step out (suc n) s ≡ (r >>= rest)
unfolding repeat_steps
one_more step out at n s rest (Ok q) h more = then_ok (step s) (false, at q) _ h ∙ more q
one_more step out at n s rest (Err e) h more = rw h refl

-- Readings in a row, put together in two ways.
pub then_then : {A B C : Type 0} (r : Result A FrameFail) (f : A → Result B FrameFail) (g : B → Result C FrameFail)
    → (r >>= λ x. f x >>= g) ≡ ((r >>= f) >>= g)
then_then (Ok x) f g = refl
then_then (Err e) f g = refl

-- Over things that are spelled one after another, the steps add what each says.
pub spelled_steps : {A P S : Type 0} (step : S → Result (Bool × S) FrameFail) (out : S → FrameFail) (at : P → List ℕ → S)
    (spell : A → List ℕ) (add : P → A → Result P FrameFail) (end : List ℕ) (Fits : A → Type 0)
    → ((p : P) (a : A) (rest : List ℕ) → Fits a → step (at p (spell a ++ rest)) ≡ (add p a >>= λ q. Ok (false, at q rest)))
    → ((p : P) (rest : List ℕ) → step (at p (end ++ rest)) ≡ Ok (true, at p rest))
    → (n : ℕ) (list : List A) (p : P) (rest : List ℕ) → AllByRecursion Fits list → length list < n
    → repeat_steps step out n (at p (flat_map spell list ++ (end ++ rest))) ≡ (folded add p list >>= λ q. Ok (at q rest))
unfolding repeat_steps folded
spelled_steps step out at spell add end Fits reads ends zero list p rest fits less = absurd (omega (arith, less))
spelled_steps step out at spell add end Fits reads ends (suc n) [] p rest fits less = then_ok (step (at p (end ++ rest))) (true, at p rest) _ (ends p rest)
spelled_steps {A} {P} {S} step out at spell add end Fits reads ends (suc n) (a ∷ list) p rest fits less =
    let tail = flat_map spell list ++ (end ++ rest) in
    let text : List ℕ → Result S FrameFail = λ t. repeat_steps step out (suc n) (at p t) in
    ap text (append_assoc (spell a) (flat_map spell list) (end ++ rest))
    ∙ one_more step out (λ q. at q tail) n (at p (spell a ++ tail)) (λ q. folded add q list >>= λ t. Ok (at t rest)) (add p a)
    (reads p a tail fits.0)
    (λ q. spelled_steps step out at spell add end Fits reads ends n list q rest fits.1 (omega (arith, less)))
    ∙ then_then (add p a) (λ q. folded add q list) (λ t. Ok (at t rest))
