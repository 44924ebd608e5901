-- Fields that are appended one after another.
use Rattle.std.proofs.Common.{◌≡◌, ℕ, List, [], ◌++◌, sym, ◌∙◌, ap, append_assoc, append-nil}

-- One that others follow.
pub then_more : (o p q f rest : List ℕ) → p ≡ o ++ f → q ≡ p ++ rest → q ≡ o ++ (f ++ rest)
then_more o p q f rest one more = more ∙ ap (λ (xs : List ℕ). xs ++ rest) one ∙ append_assoc o f rest

-- The last one.
pub and_last : (o q f : List ℕ) → q ≡ o ++ f → q ≡ o ++ (f ++ [])
and_last o q f one = one ∙ ap (λ (xs : List ℕ). o ++ xs) (sym (append-nil f))
