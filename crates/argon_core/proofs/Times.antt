-- When each place of the memory is filled, over plain numbers: L lanes, slices of s columns, and
-- passes of T blocks.
use Rattle.std.proofs.Common.{◌≡◌, ◌≢◌, ℕ, ◌+◌, ◌-◌, ◌*◌, ◌/◌, ◌%◌, ◌<◌, ◌≤◌, nat_lt, if◌then◌else◌, sym, ◌∙◌, inl, inr, arith}
use Rattle.std.proofs.lemmas.Bool.{cases_lt}
use Rattle.std.proofs.lemmas.Bool.Decides.{nat_tests}
use Rattle.std.proofs.lemmas.Nat.{div-mul-add}
use Rattle.std.proofs.Math.Nat.{mul-le-mul_right, mul-add-mod_self_right, mod-eq_of_lt}

-- the low digit of a number
pub mod-mul-add : (a w b : ℕ) → b < w → (a * w + b) % w ≡ b
mod-mul-add a w b h = mul-add-mod_self_right a w b ∙ mod-eq_of_lt h

-- a place in an earlier slice, of whichever lane, comes before one in a later slice
pub earlier_slice : (L s c l e c' l' e' : ℕ) → c < c' → l < L → e < s → (c * L + l) * s + e < (c' * L + l') * s + e'
earlier_slice L s c l e c' l' e' slice lane place =
    let lanes : (c + 1) * L ≤ c' * L = mul-le-mul_right L (omega arith) in
    let next : c * L + l + 1 ≤ c' * L + l' = omega (arith, lanes) in
    let rows : (c * L + l + 1) * s ≤ (c' * L + l') * s = mul-le-mul_right s next in
    omega (arith, rows)

-- a pass has room for all places
pub place_in_pass : (L s c l e : ℕ) → c < 4 → l < L → e < s → (c * L + l) * s + e < L * (4 * s)
place_in_pass L s c l e slice lane place =
    let below : (c * L + l) * s + e < (4 * L + 0) * s + 0 = earlier_slice L s c l e 4 0 0 slice lane place in
    omega (arith, below)

-- what is at a place o after n blocks
abbrev pub latest_at : ℕ → ℕ → ℕ → ℕ
latest_at T n o = let t = n / T * T + o in if nat_lt t n then t else t - T

latest_below : (T p o n : ℕ) → n / T ≡ p → p * T + o < n → latest_at T n o ≡ p * T + o
latest_below T p o n pass below = rw pass (grind (arith, nat_tests))

pub latest_above : (T p o n : ℕ) → n / T ≡ p → n ≤ p * T + o → latest_at T n o ≡ p * T + o - T
latest_above T p o n pass above = rw pass (grind (arith, nat_tests))

-- the number of the pass one block on
next_pass : (T p r : ℕ) → r + 1 ≡ T → (p * T + r + 1) / T ≡ p + 1
next_pass T p r end =
    let e : p * T + r + 1 ≡ (p + 1) * T + 0 = omega arith in
    rw e (div-mul-add (p + 1) T 0 (omega arith))

same_pass : (T p r : ℕ) → r + 1 < T → (p * T + r + 1) / T ≡ p
same_pass T p r inside =
    let e : p * T + r + 1 ≡ p * T + (r + 1) = omega arith in
    rw e (div-mul-add p T (r + 1) inside)

-- the place that was filled last has the newest block
pub latest_here : (T p r : ℕ) → r < T → latest_at T (p * T + r + 1) r ≡ p * T + r
latest_here T p r low = elim (cases_lt (r + 1) T) [
  | inl inside ↦ latest_below T p r (p * T + r + 1) (same_pass T p r inside) (omega arith)
  | inr end ↦
      let edge : r + 1 ≡ T = omega arith in
      latest_above T (p + 1) r (p * T + r + 1) (next_pass T p r edge) (omega arith) ∙ omega arith
]

-- each other place has what it had
pub latest_elsewhere : (T p r o : ℕ) → r < T → o < T → o ≢ r → latest_at T (p * T + r + 1) o ≡ latest_at T (p * T + r) o
latest_elsewhere T p r o low fits ne =
    let now : (p * T + r) / T ≡ p = div-mul-add p T r low in
    elim (cases_lt (r + 1) T) [
      | inl inside ↦ elim (cases_lt o r) [
        | inl before ↦
            latest_below T p o (p * T + r + 1) (same_pass T p r inside) (omega arith)
            ∙ sym (latest_below T p o (p * T + r) now (omega arith))
        | inr after ↦
            latest_above T p o (p * T + r + 1) (same_pass T p r inside) (omega arith)
            ∙ sym (latest_above T p o (p * T + r) now (omega arith))
      ]
      | inr end ↦
          let edge : r + 1 ≡ T = omega arith in
          latest_above T (p + 1) o (p * T + r + 1) (next_pass T p r edge) (omega arith)
          ∙ sym (latest_below T p o (p * T + r) now (omega arith) ∙ omega arith)
    ]
