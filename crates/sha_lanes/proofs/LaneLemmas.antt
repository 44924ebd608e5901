-- What holds of each of four lanes, from the cases, and how lanes are read and set.
use Rattle.std.proofs.Common.{◌≡◌, ℕ, zero, suc, ◌<◌, ◌+◌, ◌-◌, ◌*◌, ◌/◌, ◌%◌, ◌^◌, List, [], ◌∷◌, length, slice_index, slice_index_or, slice_set, take, drop, bit_or, arith, refl, ap, subst, inl, inr}
use Rattle.std.proofs.lemmas.Bool.{cases_lt}
use Rattle.std.proofs.lemmas.List.{take_rest}
use Rattle.std.specs.Int.{w32, rotate_right}
use Rattle.std.specs.Simd.Lanes.{zip2}
use Rattle.sha2.specs.Sha256.{add32}
use Rattle.sha_lanes.specs.Lanes.{HaveLength, lane, one_of, state_lane}

-- what holds of each of four numbers
pub below_four : (P : ℕ → Type 0) → P 0 → P 1 → P 2 → P 3 → (j : ℕ) → j < 4 → P j
below_four P p0 p1 p2 p3 zero h = p0
below_four P p0 p1 p2 p3 (suc zero) h = p1
below_four P p0 p1 p2 p3 (suc (suc zero)) h = p2
below_four P p0 p1 p2 p3 (suc (suc (suc zero))) h = p3
below_four P p0 p1 p2 p3 (suc (suc (suc (suc n)))) h = absurd (omega arith)

-- what holds of each vector of four lanes
pub four_lanes : (P : List ℕ → Type 0) → ((a b c d : ℕ) → P (a ∷ b ∷ c ∷ d ∷ [])) → (xs : List ℕ) → length xs ≡ 4 → P xs
four_lanes P p (a ∷ b ∷ c ∷ d ∷ []) h = p a b c d
four_lanes P p [] h = absurd (omega arith)
four_lanes P p (a ∷ []) h = absurd (omega arith)
four_lanes P p (a ∷ b ∷ []) h = absurd (omega arith)
four_lanes P p (a ∷ b ∷ c ∷ []) h = absurd (omega arith)
four_lanes P p (a ∷ b ∷ c ∷ d ∷ e ∷ xs) h = absurd (omega arith)

-- each lane plus one number
abbrev AddsNumber : ℕ → List ℕ → Type 0
AddsNumber number x = (j : ℕ) → j < 4
    → slice_index (zip2 (λ x y. (x + y) % 2 ^ 32) x (number ∷ number ∷ number ∷ number ∷ [])) j ≡ add32 (slice_index x j) number

pub sums_with_number : (number : ℕ) (x : List ℕ) → length x ≡ 4 → AddsNumber number x
sums_with_number number = four_lanes (AddsNumber number) (λ a b c d. below_four _ refl refl refl refl)

-- two shifts of each lane and an or are a rotation
abbrev Rotates : ℕ → List ℕ → Type 0
Rotates k x = (j : ℕ) → j < 4
    → slice_index (zip2 bit_or
    (zip2 (λ x n. x / 2 ^ n) x (k ∷ k ∷ k ∷ k ∷ []))
    (zip2 (λ x n. x * 2 ^ n % 2 ^ 32) x ((32 - k) ∷ (32 - k) ∷ (32 - k) ∷ (32 - k) ∷ []))) j
    ≡ rotate_right w32 (slice_index x j) k

pub shifts_rotate : (k : ℕ) → 0 < k → k < 32 → (x : List ℕ) → length x ≡ 4 → Rotates k x
shifts_rotate k low high =
    let right : k % 32 ≡ k = omega arith in
    let left : (32 - k % 32) % 32 ≡ 32 - k = omega arith in
    four_lanes (Rotates k) (λ a b c d.
    below_four _ (rw (left, right) refl) (rw (left, right) refl) (rw (left, right) refl) (rw (left, right) refl))

-- each lane shifted by as many bits
abbrev Shifts : ℕ → List ℕ → Type 0
Shifts k x = (j : ℕ) → j < 4
    → slice_index (zip2 (λ x n. x / 2 ^ n) x (k ∷ k ∷ k ∷ k ∷ [])) j ≡ slice_index x j / 2 ^ k

pub shifts_each : (k : ℕ) (x : List ℕ) → length x ≡ 4 → Shifts k x
shifts_each k = four_lanes (Shifts k) (λ a b c d. below_four _ refl refl refl refl)

-- a word of a lane is that lane of the word's vector
pub slice_index-lane : (v : List (List ℕ)) (j i : ℕ) → slice_index (lane v j) i ≡ slice_index (slice_index_or v i []) j
slice_index-lane [] j i = refl
slice_index-lane (x ∷ v) j zero = refl
slice_index-lane (x ∷ v) j (suc i) = slice_index-lane v j i

-- the lane of vectors of which one was set
pub lane-set : (v : List (List ℕ)) (j i : ℕ) (x : List ℕ) → lane (slice_set v i x) j ≡ slice_set (lane v j) i (slice_index x j)
lane-set [] j i x = refl
lane-set (y ∷ v) j zero x = refl
lane-set (y ∷ v) j (suc i) x = ap (λ l. slice_index y j ∷ l) (lane-set v j i x)

pub length-lane : (v : List (List ℕ)) (j : ℕ) → length (lane v j) ≡ length v
length-lane [] j = refl
length-lane (x ∷ v) j = ap suc (length-lane v j)

-- one of four parts is the part of one of four
pub one_of-parts : (f : List ℕ → List ℕ) (a b c d : List ℕ) (j : ℕ) → j < 4 → one_of (f a) (f b) (f c) (f d) j ≡ f (one_of a b c d j)
one_of-parts f a b c d = below_four _ refl refl refl refl

-- each of four lists has their length
pub length-one_of : (n : ℕ) (a b c d : List ℕ) → HaveLength n a b c d → (j : ℕ) → j < 4 → length (one_of a b c d j) ≡ n
length-one_of n a b c d long = below_four _ long.first long.second long.third long.fourth

-- a word of a state's lane is that lane of the word's vector
pub slice_index-state_lane : (v : List (List ℕ)) (j i : ℕ) → i < 8 → slice_index (state_lane v j) i ≡ slice_index (slice_index_or v i []) j
slice_index-state_lane v j i below = elim (cases_lt i 4) [
  | inl low ↦ below_four (λ i. slice_index (state_lane v j) i ≡ slice_index (slice_index_or v i []) j) refl refl refl refl i low
  | inr high ↦
      let at : 4 + (i - 4) ≡ i = omega arith in
      subst (λ i. slice_index (state_lane v j) i ≡ slice_index (slice_index_or v i []) j) at
      (below_four (λ i. slice_index (state_lane v j) (4 + i) ≡ slice_index (slice_index_or v (4 + i) []) j) refl refl refl refl (i - 4) (omega arith))
]

-- one of what is left of four
pub one_of-rests : (a b c d : List ℕ) (n j : ℕ) → j < 4
    → one_of (take (length a - n) (drop n a)) (take (length b - n) (drop n b)) (take (length c - n) (drop n c)) (take (length d - n) (drop n d)) j
    ≡ drop n (one_of a b c d j)
one_of-rests a b c d n = below_four _ (take_rest a n) (take_rest b n) (take_rest c n) (take_rest d n)
