-- Items that are put at the end one after another.
use Rattle.std.proofs.Common.{◌≡◌, ℕ, List, [], ◌++◌, sym, ap, ◌∙◌, append_assoc, append-nil, Result, Ok, Err, OnOk}

-- What was put so far, and one thing more.
pub puts_more : (old mid new a b : List ℕ) → mid ≡ old ++ a → new ≡ mid ++ b → new ≡ old ++ (a ++ b)
puts_more old mid new a b h g = g ∙ ap (λ (l : List ℕ). l ++ b) h ∙ append_assoc old a b

-- The last of them.
pub puts_last : {X E : Type 0} (result : Result X E) (old mid new a b more : List ℕ) → a ++ b ≡ more → mid ≡ old ++ a → OnOk result (new ≡ mid ++ b) → OnOk result (new ≡ old ++ more)
puts_last (Ok x) old mid new a b more e h g = puts_more old mid new a b h g ∙ ap (λ (l : List ℕ). old ++ l) e
puts_last (Err x) old mid new a b more e h g = tt

pub three : (a b c : List ℕ) → (a ++ b) ++ c ≡ a ++ (b ++ (c ++ []))
three a b c = append_assoc a b c ∙ ap (λ (l : List ℕ). a ++ (b ++ l)) (sym (append-nil c))

pub six : (a b c d e f : List ℕ) → ((((a ++ b) ++ c) ++ d) ++ e) ++ f ≡ a ++ (b ++ (c ++ (d ++ (e ++ (f ++ [])))))
six a b c d e f =
    append_assoc (((a ++ b) ++ c) ++ d) e f ∙ append_assoc ((a ++ b) ++ c) d (e ++ f) ∙ append_assoc (a ++ b) c (d ++ (e ++ f))
    ∙ append_assoc a b (c ++ (d ++ (e ++ f))) ∙ ap (λ (l : List ℕ). a ++ (b ++ (c ++ (d ++ (e ++ l))))) (sym (append-nil f))
