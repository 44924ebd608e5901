-- 256 bytes of 0 choose two letters.
use Rattle.std.proofs.Common.{◌≡◌, ◌<◌, ◌≤◌, ℕ, zero, suc, List, [], ◌∷◌, ◌++◌, length, replicate, refl, sym, ap, subst, arith}
use Rattle.std.proofs.lemmas.List.{length-replicate}
use Rattle.gen_core.specs.Chosen.{bound}
use Rattle.generation_laws.specs.Conditions.{HasAccepted}
use Rattle.generation_laws.specs.Example.{ExampleDice}

abbrev first_or : ℕ → List ℕ → ℕ
first_or n [] = n
first_or n (b ∷ bs) = b

abbrev rest_of : List ℕ → List ℕ
rest_of [] = []
rest_of (b ∷ bs) = bs

-- a byte within so many equal ones is the one
equal_at : (n x b : ℕ) (front back : List ℕ) → replicate n x ≡ front ++ (b ∷ back) → b ≡ x
equal_at zero x b [] back e = cc e
equal_at zero x b (c ∷ front) back e = cc e
equal_at (suc n) x b [] back e = sym (ap (first_or b) e)
equal_at (suc n) x b (c ∷ front) back e = equal_at n x b front back (ap rest_of e)

accepted_in : (front part back : List ℕ) → replicate 256 0 ≡ front ++ (part ++ back) → length part ≡ 128 → HasAccepted 26 part
accepted_in front [] back is whole = cc whole
accepted_in front (b ∷ part) back is whole = record {
  front = [];
  byte = b;
  back = part;
  is = refl;
  below = subst (λ (n : ℕ). n < bound 26) (sym (equal_at 256 0 b front (part ++ back) is)) (omega arith);
}

pub example_dice : ExampleDice
example_dice = record { enough = subst (λ (n : ℕ). 256 ≤ n) (sym (length-replicate {A = ℕ} 256 0)) (omega arith); accepted = accepted_in }
