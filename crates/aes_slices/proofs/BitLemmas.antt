-- Bytes and their bits.
use Rattle.std.proofs.Common.{◌≡◌, ℕ, zero, suc, ◌<◌, ◌+◌, ◌*◌, ◌/◌, ◌^◌, List, map, refl, ap, sym, ◌∙◌, arith, get_or, mod-lt, bit_xor}
use Rattle.std.specs.List.{range_with_len}
use Rattle.std.specs.Int.{bit_at}
use Rattle.std.proofs.lemmas.Nat.{xor_of_8}
use Rattle.std.proofs.lemmas.Nat.Bits.{bit_at_xor, same_from_bits_below}
use Rattle.std.proofs.lemmas.List.FromFn.{get_or-map-range_with_len}
use Rattle.aes_slices.specs.Circuits.{xor_bit}
use Rattle.aes_slices.specs.Slices.{from_bits}

-- two functions that have one table below n agree below n
pub from_table : {X : Type 0} (d : X) (f g : ℕ → X) (n : ℕ)
    → map f (range_with_len 0 n) ≡ map g (range_with_len 0 n) → (k : ℕ) → k < n → f k ≡ g k
from_table d f g n e k h =
    sym (get_or-map-range_with_len f 0 n k k d h (omega arith))
    ∙ ap (λ (xs : List _). get_or xs k d) e
    ∙ get_or-map-range_with_len g 0 n k k d h (omega arith)

-- what holds of each of eight numbers
pub below_eight : (P : ℕ → Type 0) → P 0 → P 1 → P 2 → P 3 → P 4 → P 5 → P 6 → P 7 → (b : ℕ) → b < 8 → P b
below_eight P p0 p1 p2 p3 p4 p5 p6 p7 zero h = p0
below_eight P p0 p1 p2 p3 p4 p5 p6 p7 (suc zero) h = p1
below_eight P p0 p1 p2 p3 p4 p5 p6 p7 (suc (suc zero)) h = p2
below_eight P p0 p1 p2 p3 p4 p5 p6 p7 (suc (suc (suc zero))) h = p3
below_eight P p0 p1 p2 p3 p4 p5 p6 p7 (suc (suc (suc (suc zero)))) h = p4
below_eight P p0 p1 p2 p3 p4 p5 p6 p7 (suc (suc (suc (suc (suc zero))))) h = p5
below_eight P p0 p1 p2 p3 p4 p5 p6 p7 (suc (suc (suc (suc (suc (suc zero)))))) h = p6
below_eight P p0 p1 p2 p3 p4 p5 p6 p7 (suc (suc (suc (suc (suc (suc (suc zero))))))) h = p7
below_eight P p0 p1 p2 p3 p4 p5 p6 p7 (suc (suc (suc (suc (suc (suc (suc (suc n)))))))) h = absurd (omega arith)

-- a number of the same bits
pub from_bits_same : (f g : ℕ → ℕ) (n : ℕ) → ((b : ℕ) → b < n → f b ≡ g b) → from_bits f n ≡ from_bits g n
unfolding from_bits
from_bits_same f g zero h = refl
from_bits_same f g (suc n) h = λ i. from_bits_same f g n (λ b k. h b (omega arith)) i + 2 ^ n * h n (omega arith) i

pub bit_lt : (n i : ℕ) → bit_at n i < 2
bit_lt n i = mod-lt (n / 2 ^ i) (omega arith)

module _ (f : ℕ → ℕ) (bits : (b : ℕ) → f b < 2) where
  pub from_bits_lt : from_bits f 8 < 256
  unfolding from_bits
  from_bits_lt = omega (arith, bits 0, bits 1, bits 2, bits 3, bits 4, bits 5, bits 6, bits 7)

  -- bit b of the number of these bits
  pub bit_from_bits : (b : ℕ) → b < 8 → bit_at (from_bits f 8) b ≡ f b
  unfolding from_bits
  bit_from_bits = below_eight _
      (omega (arith, bits 0, bits 1, bits 2, bits 3, bits 4, bits 5, bits 6, bits 7))
      (omega (arith, bits 0, bits 1, bits 2, bits 3, bits 4, bits 5, bits 6, bits 7))
      (omega (arith, bits 0, bits 1, bits 2, bits 3, bits 4, bits 5, bits 6, bits 7))
      (omega (arith, bits 0, bits 1, bits 2, bits 3, bits 4, bits 5, bits 6, bits 7))
      (omega (arith, bits 0, bits 1, bits 2, bits 3, bits 4, bits 5, bits 6, bits 7))
      (omega (arith, bits 0, bits 1, bits 2, bits 3, bits 4, bits 5, bits 6, bits 7))
      (omega (arith, bits 0, bits 1, bits 2, bits 3, bits 4, bits 5, bits 6, bits 7))
      (omega (arith, bits 0, bits 1, bits 2, bits 3, bits 4, bits 5, bits 6, bits 7))

-- the sum of two numbers, by their bits
pub from_bits-xor : (f g : ℕ → ℕ) → ((b : ℕ) → f b < 2) → ((b : ℕ) → g b < 2)
    → from_bits (λ b. xor_bit (f b) (g b)) 8 ≡ bit_xor (from_bits f 8) (from_bits g 8)
from_bits-xor f g f_bits g_bits =
    let both : (b : ℕ) → xor_bit (f b) (g b) < 2 = (λ b. mod-lt (f b + g b) (omega arith)) in
    same_from_bits_below 8 _ _ (from_bits_lt _ both) (xor_of_8 _ _ (from_bits_lt f f_bits) (from_bits_lt g g_bits))
    (λ b h. bit_from_bits _ both b h
    ∙ (λ i. xor_bit (sym (bit_from_bits f f_bits b h) i) (sym (bit_from_bits g g_bits b h) i))
    ∙ sym (bit_at_xor (from_bits f 8) (from_bits g 8) b))
