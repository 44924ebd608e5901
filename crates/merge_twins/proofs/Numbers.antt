-- Ids that are numbers: each number has its own, and they rise with the numbers.
use Rattle.std.proofs.Common.{◌≡◌, ◌<◌, ◌≤◌, ◌+◌, ◌/◌, ◌%◌, ◌^◌, ◌⊎◌, inl, inr, ℕ, zero, suc, true, [], ◌∷◌, get_or, refl, sym, ap, ◌∙◌, arith}
use Rattle.std.proofs.Math.Nat.{div-eq_of_lt}
use Rattle.std.proofs.lemmas.Bool.Decides.{nat_tests}
use Rattle.std.specs.List.{range_with_len}
use Rattle.std.specs.Ordering.{nat_cmp, ordering_then, is_lt}
use Rattle.std.specs.declared.cmp.Ordering.TheVariants.{Equal}
use Rattle.vault_model.specs.Db.{NodeId, nil_id}
use Rattle.vault_model.specs.Join.{IsIn}
use Rattle.vault_model.specs.Orders.{bytes_cmp}
use Rattle.merge_twins.specs.Twins.{number_id, root_id}

-- the id of a number of two bytes
abbrev short_id : ℕ → NodeId
short_id n = 0 ∷ 0 ∷ 0 ∷ 0 ∷ 0 ∷ 0 ∷ 0 ∷ 0 ∷ 0 ∷ 0 ∷ 0 ∷ 0 ∷ 0 ∷ 0 ∷ n / 256 ∷ n % 256 ∷ []

no_byte : (n d : ℕ) → n < d → n / d % 256 ≡ 0
no_byte n d less = ap (λ q. q % 256) (div-eq_of_lt less)

low_byte : (n : ℕ) → n < 65536 → n / 256 % 256 ≡ n / 256
low_byte n few = omega arith

pub is_short : (n : ℕ) → n < 65536 → number_id n ≡ short_id n
unfolding number_id
is_short n few =
    λ i.
    no_byte n (256 ^ 15) (omega arith) i ∷ no_byte n (256 ^ 14) (omega arith) i ∷ no_byte n (256 ^ 13) (omega arith) i
    ∷ no_byte n (256 ^ 12) (omega arith) i ∷ no_byte n (256 ^ 11) (omega arith) i ∷ no_byte n (256 ^ 10) (omega arith) i
    ∷ no_byte n (256 ^ 9) (omega arith) i ∷ no_byte n (256 ^ 8) (omega arith) i ∷ no_byte n (256 ^ 7) (omega arith) i
    ∷ no_byte n (256 ^ 6) (omega arith) i ∷ no_byte n (256 ^ 5) (omega arith) i ∷ no_byte n (256 ^ 4) (omega arith) i
    ∷ no_byte n (256 ^ 3) (omega arith) i ∷ no_byte n (256 ^ 2) (omega arith) i ∷ low_byte n few i ∷ n % 256 ∷ []

-- one id, one number
pub same_number : (m n : ℕ) → m < 65536 → n < 65536 → number_id m ≡ number_id n → m ≡ n
same_number m n few less same =
    let short : short_id m ≡ short_id n = sym (is_short m few) ∙ same ∙ is_short n less in
    let high : m / 256 ≡ n / 256 = ap (λ (u : NodeId). get_or u 14 0) short in
    let low : m % 256 ≡ n % 256 = ap (λ (u : NodeId). get_or u 15 0) short in
    omega arith

abbrev first_byte : NodeId → ℕ
first_byte u = get_or u 0 0

pub not_root : (n : ℕ) → n < 65536 → root_id ≡ number_id n → ⊥
not_root n few same =
    let high : first_byte root_id ≡ first_byte (short_id n) = ap first_byte (same ∙ is_short n few) in
    omega (arith, high)

pub nil_number : nil_id ≡ number_id 0
unfolding number_id
nil_number = refl

-- a pair of bytes is below another where it is less as a number
lower : (a b c d : ℕ) → (a < b) ⊎ ((a ≡ b) × (c < d)) → is_lt (ordering_then (nat_cmp a b) (ordering_then (nat_cmp c d) Equal)) ≡ true
lower a b c d (inl less) = grind (arith, nat_tests)
lower a b c d (inr (same, less)) = grind (arith, nat_tests)

parts_less : (m n : ℕ) → m < n → (m / 256 < n / 256) ⊎ ((m / 256 ≡ n / 256) × (m % 256 < n % 256))
parts_less m n less = grind arith

pub number_less : (m n : ℕ) → n < 65536 → m < n → is_lt (bytes_cmp (number_id m) (number_id n)) ≡ true
number_less m n few less =
    (λ i. is_lt (bytes_cmp (is_short m (omega arith) i) (is_short n few i)))
    ∙ lower (m / 256) (n / 256) (m % 256) (n % 256) (parts_less m n less)

-- what is among numbers that follow one another
pub in_range : (a n i : ℕ) → IsIn i (range_with_len a n) → (a ≤ i) × (i < a + n)
in_range a zero i h = absurd h
in_range a (suc n) i (inl p) = (omega arith, omega arith)
in_range a (suc n) i (inr h) = let rest = in_range (a + 1) n i h in (omega (arith, rest.0), omega (arith, rest.1))
