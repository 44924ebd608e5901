-- What holds of each word of a register, and of each byte of a word, from the cases.
use Rattle.std.proofs.Common.{◌≡◌, ℕ, zero, suc, ◌<◌, ◌+◌, ◌-◌, ◌*◌, ◌/◌, ◌%◌, ◌^◌, List, [], ◌∷◌, length, slice_index, bit_and, bit_or, arith, refl, sym, ap, ◌∙◌}
use Rattle.std.proofs.lemmas.Nat.{and_mask}
use Rattle.std.proofs.Math.Nat.{mul_assoc}
use Rattle.argon_core.specs.Compression.{multiply_add}
use Rattle.std.specs.Int.{w64, rotate_right}
use Rattle.std.specs.Simd.Lanes.{zip2}

-- what holds of each of two numbers
pub below_two : (P : ℕ → Type 0) → P 0 → P 1 → (j : ℕ) → j < 2 → P j
below_two P p0 p1 zero h = p0
below_two P p0 p1 (suc zero) h = p1
below_two P p0 p1 (suc (suc n)) h = absurd (omega arith)

-- what holds of each of eight numbers
pub below_eight : (P : ℕ → Type 0) → P 0 → P 1 → P 2 → P 3 → P 4 → P 5 → P 6 → P 7 → (k : ℕ) → k < 8 → P k
below_eight P p0 p1 p2 p3 p4 p5 p6 p7 zero h = p0
below_eight P p0 p1 p2 p3 p4 p5 p6 p7 (suc zero) h = p1
below_eight P p0 p1 p2 p3 p4 p5 p6 p7 (suc (suc zero)) h = p2
below_eight P p0 p1 p2 p3 p4 p5 p6 p7 (suc (suc (suc zero))) h = p3
below_eight P p0 p1 p2 p3 p4 p5 p6 p7 (suc (suc (suc (suc zero)))) h = p4
below_eight P p0 p1 p2 p3 p4 p5 p6 p7 (suc (suc (suc (suc (suc zero))))) h = p5
below_eight P p0 p1 p2 p3 p4 p5 p6 p7 (suc (suc (suc (suc (suc (suc zero)))))) h = p6
below_eight P p0 p1 p2 p3 p4 p5 p6 p7 (suc (suc (suc (suc (suc (suc (suc zero))))))) h = p7
below_eight P p0 p1 p2 p3 p4 p5 p6 p7 (suc (suc (suc (suc (suc (suc (suc (suc n)))))))) h = absurd (omega arith)

-- what holds of each vector of two words
pub two_words : (P : List ℕ → Type 0) → ((a b : ℕ) → P (a ∷ b ∷ [])) → (xs : List ℕ) → length xs ≡ 2 → P xs
two_words P p (a ∷ b ∷ []) h = p a b
two_words P p [] h = absurd (omega arith)
two_words P p (a ∷ []) h = absurd (omega arith)
two_words P p (a ∷ b ∷ c ∷ xs) h = absurd (omega arith)

-- two shifts of each word and an or are a rotation
abbrev Rotates : List ℕ → Type 0
Rotates x = (j : ℕ) → j < 2
    → slice_index (zip2 bit_or
    (zip2 (λ x n. x / 2 ^ n) x (63 ∷ 63 ∷ []))
    (zip2 (λ x n. x * 2 ^ n % 2 ^ 64) x (1 ∷ 1 ∷ []))) j
    ≡ rotate_right w64 (slice_index x j) 63

pub shifts_rotate : (x : List ℕ) → length x ≡ 2 → Rotates x
shifts_rotate = two_words Rotates (λ a b. below_two _ refl refl)

-- a word and another, and twice a product
sum_twice : (s m : ℕ) → ((s % 2 ^ 64 + m % 2 ^ 64) % 2 ^ 64 + m % 2 ^ 64) % 2 ^ 64 ≡ (s + 2 * m) % 2 ^ 64
sum_twice s m = omega arith

-- one word of a sum of two registers and twice the product of their low halves
word_added : (x y : ℕ)
    → (((x + y) % 2 ^ 64 + bit_and x (2 ^ 32 - 1) * bit_and y (2 ^ 32 - 1) % 2 ^ 64) % 2 ^ 64
    + bit_and x (2 ^ 32 - 1) * bit_and y (2 ^ 32 - 1) % 2 ^ 64) % 2 ^ 64 ≡ multiply_add x y
word_added x y =
    rw (and_mask x 32, and_mask y 32) (sum_twice (x + y) (x % 2 ^ 32 * (y % 2 ^ 32))
    ∙ ap (λ n. (x + y + n) % 2 ^ 64) (sym (mul_assoc 2 (x % 2 ^ 32) (y % 2 ^ 32))))

abbrev Adds : List ℕ → List ℕ → Type 0
Adds a b =
    let low = 4294967295 ∷ 4294967295 ∷ [] in
    let product = zip2 (λ x y. x * y % 2 ^ 64) (zip2 bit_and a low) (zip2 bit_and b low) in
    (j : ℕ) → j < 2
    → slice_index (zip2 (λ x y. (x + y) % 2 ^ 64) (zip2 (λ x y. (x + y) % 2 ^ 64) (zip2 (λ x y. (x + y) % 2 ^ 64) a b) product) product) j
    ≡ multiply_add (slice_index a j) (slice_index b j)

pub products_added : (a b : List ℕ) → length a ≡ 2 → length b ≡ 2 → Adds a b
products_added a b la lb =
    two_words (λ a. Adds a b) (λ p q. two_words (λ b. Adds (p ∷ q ∷ []) b) (λ r s. below_two _ (word_added p r) (word_added q s)) b lb) a la
