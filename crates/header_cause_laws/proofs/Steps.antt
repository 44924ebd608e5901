-- Steps that are refused.
use Rattle.std.proofs.Common.{◌≡◌, ◌≢◌, ◌⊎◌, Bool, true, false, inl, inr, cond, List, ℕ, Result, Ok, Err, bytes_eq, refl, ap}
use Rattle.std.proofs.lemmas.Slice.Eq.{bytes_eq-Decides}
use Rattle.outside_core.specs.Results.{◌>>=◌}
use Rattle.vault_model.proofs.Tests.{apart}

abbrev fail_in : {A E : Type 0} → E → Result A E → E
fail_in e (Ok x) = e
fail_in e (Err f) = f

-- A refusal of two steps is one of the first, or one of the second after the first.
pub refused_at : {A B E : Type 0} (part : Result A E) (next : A → Result B E) (fail : E) → (part >>= next) ≡ Err fail → (part ≡ Err fail) ⊎ ((x : A) × ((part ≡ Ok x) × (next x ≡ Err fail)))
refused_at (Ok x) next fail h = inr (x, (refl, h))
refused_at (Err e) next fail h = inl (ap Err (ap (fail_in e) h))

-- What two steps give, the second gives after the first.
pub given_by : {A B E : Type 0} (part : Result A E) (next : A → Result B E) (y : B) → (part >>= next) ≡ Ok y → (x : A) × ((part ≡ Ok x) × (next x ≡ Ok y))
given_by (Ok x) next y h = (x, (refl, h))
given_by (Err e) next y h = cc h

pub same_fail : {A E : Type 0} (e fail : E) → ◌≡◌ {A = Result A E} (Err e) (Err fail) → e ≡ fail
same_fail e fail h = ap (fail_in e) h

-- Of a test with two outcomes, the one that came.
pub which : {A : Type 0} (b : Bool) (x y r : A) → cond b x y ≡ r → ((b ≡ true) × (x ≡ r)) ⊎ ((b ≡ false) × (y ≡ r))
which true x y r h = inl (refl, h)
which false x y r h = inr (refl, h)

pub differs : (a b : List ℕ) → bytes_eq a b ≡ false → a ≢ b
differs a b off = λ same. apart (bytes_eq a b) ((bytes_eq-Decides a b).1 same) off

pub agrees : (a b : List ℕ) → bytes_eq a b ≡ true → a ≡ b
agrees a b on = (bytes_eq-Decides a b).0 on

-- The same of a test within what comes of it.
pub under : {A B : Type 0} (f : A → B) (b : Bool) (x y : A) (r : B) → f (cond b x y) ≡ r → ((b ≡ true) × (f x ≡ r)) ⊎ ((b ≡ false) × (f y ≡ r))
under f true x y r h = inl (refl, h)
under f false x y r h = inr (refl, h)
