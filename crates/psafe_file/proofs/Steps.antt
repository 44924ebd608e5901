-- Computations one after another, of which the last gives the value.
use Rattle.std.proofs.Common.{◌≡◌, refl, ◌∙◌, ap, Result, Ok, Err}
use Rattle.outside_core.specs.Results.{◌>>=◌}

-- What two give, the second gives of the value of the first.
pub both : {A B E : Type 0} (part : Result A E) (next : A → Result B E) (y : B) → (part >>= next) ≡ Ok y
    → (x : A) × ((part ≡ Ok x) × (next x ≡ Ok y))
both (Ok x) next y h = (x, (refl, h))
both (Err fail) next y h = cc

-- And so two give what the second gives.
pub each : {A B E : Type 0} (part : Result A E) (next : A → Result B E) (x : A) (y : B) → part ≡ Ok x → next x ≡ Ok y → (part >>= next) ≡ Ok y
each part next x y p q = ap (λ r. r >>= next) p ∙ q
