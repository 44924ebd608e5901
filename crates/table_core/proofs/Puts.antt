-- What is put piece by piece, and in loops.
use Rattle.std.proofs.Common.{◌≡◌, ℕ, suc, ◌+◌, ◌<◌, ◌≤◌, List, [], ◌∷◌, ◌++◌, length, drop, get_or, ap, sym, ◌∙◌, add-one}
use Rattle.std.specs.Prelude.{OnOk, Result, Ok, Err}
use Rattle.std.proofs.Math.Seq.{drop-cons}
use Rattle.std.proofs.lemmas.List.{drop_all}

-- The laws of a sink.
pub record Steps {S : Type 0} (step : S → List ℕ → S) : Type 0 where
  pub nothing : (s : S) → step s [] ≡ s
  pub joined : (s : S) (a b : List ℕ) → step (step s a) b ≡ step s (a ++ b)

-- a piece, and then more
pub before : {S : Type 0} {s t u : S} {step : S → List ℕ → S} → Steps step → (a b : List ℕ)
    → t ≡ step s a → u ≡ step t b → u ≡ step s (a ++ b)
before {s = s} {step = step} laws a b one more = more ∙ ap (λ x. step x b) one ∙ laws.joined s a b

-- nothing
pub done : {S : Type 0} {s : S} {step : S → List ℕ → S} → Steps step → s ≡ step s []
done {s = s} laws = sym (laws.nothing s)

-- a piece, and then more by the last call
pub last : {S T E : Type 0} {s t : S} {step : S → List ℕ → S} → Steps step → (a b : List ℕ) (r : Result T E) (u : S)
    → t ≡ step s a → OnOk r (u ≡ step t b) → OnOk r (u ≡ step s (a ++ b))
last laws a b (Ok x) u one more = before laws a b one more
last laws a b (Err e) u one more = more

-- one more item of a list is put, and the rest is as before
pub put_more : {S A : Type 0} {s t whole : S} {step : S → List ℕ → S} → Steps step → (all : List A → List ℕ) (one : A → List ℕ)
    → ((x : A) (xs : List A) → all (x ∷ xs) ≡ one x ++ all xs)
    → (xs : List A) (i : ℕ) (x : A) → i < length xs → x ≡ get_or xs i x → t ≡ step s (one x)
    → step s (all (drop i xs)) ≡ whole → step t (all (drop (i + 1) xs)) ≡ whole
put_more {A = A} {s = s} {t = t} {step = step} laws all one cons xs i x below here now before =
    let rest : List A = drop (suc i) xs in
    ap (λ (n : ℕ). step t (all (drop n xs))) (add-one i)
    ∙ ap (λ u. step u (all rest)) now
    ∙ laws.joined s (one x) (all rest)
    ∙ ap (step s) (sym (cons x rest) ∙ ap (λ (y : A). all (y ∷ rest)) here ∙ ap all (sym (drop-cons xs i x below)))
    ∙ before

-- no item is left
pub put_end : {S A : Type 0} {s whole : S} {step : S → List ℕ → S} → Steps step → (all : List A → List ℕ) → all [] ≡ []
    → (xs : List A) (i : ℕ) → length xs ≤ i → step s (all (drop i xs)) ≡ whole → s ≡ whole
put_end {s = s} {step = step} laws all none xs i past before =
    sym (laws.nothing s) ∙ ap (step s) (sym none ∙ ap all (sym (drop_all i xs past))) ∙ before
