-- Texts that are added one after another.
use Rattle.std.proofs.Common.{◌≡◌, ℕ, List, ◌++◌, ◌∙◌, Result, Ok, Err, OnOk, ap, append_assoc, sym}

-- What was added twice was added as a whole.
pub added : {A E : Type 0} (result : Result A E) (old mid now a b both : List ℕ) → mid ≡ old ++ a → both ≡ a ++ b
    → OnOk result (now ≡ mid ++ b) → OnOk result (now ≡ old ++ both)
added (Ok done) old mid now a b both m is h = h ∙ ap (λ (t : List ℕ). t ++ b) m ∙ append_assoc old a b ∙ ap (λ (t : List ℕ). old ++ t) (sym is)
added (Err fail) old mid now a b both m is h = tt
