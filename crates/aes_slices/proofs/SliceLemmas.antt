-- The bytes of slices, from their bits and their lanes.
use Rattle.std.proofs.Common.{◌≡◌, ℕ, zero, suc, ◌<◌, ◌+◌, ◌*◌, ◌/◌, ◌%◌, List, [], ◌∷◌, ◌++◌, length, map, slice_index, slice_index_or, refl, ap, sym, ◌∙◌, subst, arith, bit_xor}
use Rattle.std.specs.List.{range_with_len}
use Rattle.std.specs.Int.{bit_at}
use Rattle.std.proofs.lemmas.Nat.Bits.{bit_at_xor, bit_at_ones}
use Rattle.std.proofs.lemmas.Simd.{get_or-replicate}
use Rattle.aes_slices.specs.Circuits.{run_vectors, run_bits, sixteen_times, xor_bit, first, with_ones, doubling}
use Rattle.aes_slices.specs.InverseBox.{input_sums, subfield_element, subfield_inverse, inverse_products, output_sums, inverse_box, gates_byte}
use Rattle.aes_slices.specs.Slices.{from_bits, bits_of, cell_bit, cell, times_x}
use Rattle.aes_slices.proofs.BitLemmas.{from_table, below_eight, from_bits_same, from_bits_lt, bit_from_bits, from_bits-xor, bit_lt}
use Rattle.aes_slices.proofs.CircuitLanes.{HasBit, HaveBits, join_bits, run_have_bits, whole_have_bits, bit_of}

-- what holds of each of sixteen numbers
pub below_sixteen : (P : ℕ → Type 0) → P 0 → P 1 → P 2 → P 3 → P 4 → P 5 → P 6 → P 7
    → P 8 → P 9 → P 10 → P 11 → P 12 → P 13 → P 14 → P 15 → (k : ℕ) → k < 16 → P k
below_sixteen P a0 a1 a2 a3 b0 b1 b2 b3 c0 c1 c2 c3 d0 d1 d2 d3 k h =
    let place : 8 * (k / 8) + k % 8 ≡ k = omega arith in
    let half : k / 8 < 8 = omega arith in
    let short : k / 8 < 2 = omega arith in
    subst P place (halves (k / 8) short (k % 8) (omega arith))
  where
    halves : (row : ℕ) → row < 2 → (col : ℕ) → col < 8 → P (8 * row + col)
    halves zero h = below_eight _ a0 a1 a2 a3 b0 b1 b2 b3
    halves (suc zero) h = below_eight _ c0 c1 c2 c3 d0 d1 d2 d3
    halves (suc (suc n)) h = absurd (omega arith)

pub cell_lt : (s : List (List ℕ)) (j l : ℕ) → cell s j l < 256
unfolding cell
cell_lt s j l = from_bits_lt (cell_bit s j l) (λ b. bit_lt (slice_index (slice_index_or s b []) l) j)

-- ---- moves and sums

pub cell_moved : (s r : List (List ℕ)) (j l m : ℕ)
    → ((b : ℕ) → b < 8 → slice_index (slice_index_or r b []) l ≡ slice_index (slice_index_or s b []) m) → cell r j l ≡ cell s j m
unfolding cell
cell_moved s r j l m each = from_bits_same (cell_bit r j l) (cell_bit s j m) 8 (λ b h. ap (λ x. bit_at x j) (each b h))

pub cell_sum : (s t r : List (List ℕ)) (j l : ℕ)
    → ((b : ℕ) → b < 8 → slice_index (slice_index_or r b []) l ≡ bit_xor (slice_index (slice_index_or s b []) l) (slice_index (slice_index_or t b []) l))
    → cell r j l ≡ bit_xor (cell s j l) (cell t j l)
unfolding cell
cell_sum s t r j l each =
    from_bits_same (cell_bit r j l) (λ b. xor_bit (cell_bit s j l b) (cell_bit t j l b)) 8
    (λ b h. ap (λ x. bit_at x j) (each b h) ∙ bit_at_xor (slice_index (slice_index_or s b []) l) (slice_index (slice_index_or t b []) l) j)
    ∙ from_bits-xor (cell_bit s j l) (cell_bit t j l)
    (λ b. bit_lt (slice_index (slice_index_or s b []) l) j) (λ b. bit_lt (slice_index (slice_index_or t b []) l) j)

-- ---- circuits

abbrev pub AreWhole : List (List ℕ) → Type 0
AreWhole s = (b : ℕ) → b < 8 → length (slice_index_or s b []) ≡ 16

module _ (s : List (List ℕ)) (whole : AreWhole s) (j l : ℕ) (block : j < 8) (lane : l < 16) where
  abbrev bits_here : List ℕ
  bits_here = map (cell_bit s j l) (range_with_len 0 8)

  bits_are_cell's : bits_here ≡ bits_of (cell s j l)
  unfolding cell
  bits_are_cell's =
      let each : (b : ℕ) → b < 8 → cell_bit s j l b ≡ bit_at (cell s j l) b =
      (λ b h. sym (bit_from_bits (cell_bit s j l) (λ b. bit_lt (slice_index (slice_index_or s b []) l) j) b h)) in
      (λ i. each 0 (omega arith) i ∷ each 1 (omega arith) i ∷ each 2 (omega arith) i ∷ each 3 (omega arith) i
      ∷ each 4 (omega arith) i ∷ each 5 (omega arith) i ∷ each 6 (omega arith) i ∷ each 7 (omega arith) i ∷ [])

  slices_bits : HaveBits j l lane (first 8 s) bits_here
  slices_bits = (
    (whole 0 (omega arith), refl),
    (
      (whole 1 (omega arith), refl),
      (
        (whole 2 (omega arith), refl),
        (
          (whole 3 (omega arith), refl),
          (
            (whole 4 (omega arith), refl),
            ((whole 5 (omega arith), refl), ((whole 6 (omega arith), refl), ((whole 7 (omega arith), refl), tt))),
          ),
        ),
      ),
    ),
  )

  one_bit : HasBit j l lane (sixteen_times 255) 1
  one_bit = (refl, ap (λ x. bit_at x j) (get_or-replicate 16 l 255 0 lane) ∙ bit_at_ones 8 j block)

  ones_bits : HaveBits j l lane (with_ones s) (bits_here ++ 1 ∷ [])
  ones_bits = join_bits j l lane (first 8 s) (sixteen_times 255 ∷ []) bits_here (1 ∷ []) slices_bits (one_bit, tt)

  -- the byte of a result whose bits are a function of the bits of the byte
  cell_by_bits : (r : List (List ℕ)) (f : List ℕ → List ℕ) → length (f bits_here) ≡ 8 → HaveBits j l lane r (f bits_here)
      → cell r j l ≡ from_bits (slice_index (f (bits_of (cell s j l)))) 8
  unfolding cell
  cell_by_bits r f long have =
      from_bits_same (cell_bit r j l) (slice_index (f bits_here)) 8 (λ b h. bit_of j l lane r (f bits_here) have b (omega (arith, long)))
      ∙ ap (λ bits. from_bits (slice_index (f bits)) 8) bits_are_cell's

  pub cell_doubled : (r : List (List ℕ)) → r ≡ run_vectors doubling (first 8 s) → cell r j l ≡ times_x (cell s j l)
  unfolding from_bits
  cell_doubled r is =
      cell_by_bits r (run_bits doubling) refl
      (subst (λ x. HaveBits j l lane x (run_bits doubling bits_here)) (sym is) (run_have_bits j l lane doubling (first 8 s) bits_here slices_bits))
      ∙ from_table 0 (λ k. from_bits (slice_index (run_bits doubling (bits_of k))) 8) times_x 256 refl (cell s j l) (cell_lt s j l)

  pub cell_substituted : (sums element inverse products r : List (List ℕ)) → sums ≡ run_vectors input_sums (with_ones s)
      → element ≡ run_vectors subfield_element (first 22 sums) → inverse ≡ run_vectors subfield_inverse (first 4 element)
      → products ≡ run_vectors inverse_products (first 9 inverse ++ first 22 sums) → r ≡ run_vectors output_sums (first 18 products)
      → cell r j l ≡ gates_byte (cell s j l)
  unfolding gates_byte
  cell_substituted sums element inverse products r is_sums is_element is_inverse is_products is =
      let bits : List ℕ = bits_here ++ 1 ∷ [] in
      let s_bits : List ℕ = run_bits input_sums bits in
      let e_bits : List ℕ = run_bits subfield_element s_bits in
      let i_bits : List ℕ = run_bits subfield_inverse e_bits in
      let p_bits : List ℕ = run_bits inverse_products (i_bits ++ s_bits) in
      let s_have = whole_have_bits j l lane input_sums (with_ones s) sums bits 22 (ap length is_sums) is_sums ones_bits in
      let e_have = whole_have_bits j l lane subfield_element (first 22 sums) element s_bits 4 (ap length is_element) is_element s_have in
      let i_have = whole_have_bits j l lane subfield_inverse (first 4 element) inverse e_bits 9 (ap length is_inverse) is_inverse e_have in
      let both = join_bits j l lane (first 9 inverse) (first 22 sums) i_bits s_bits i_have s_have in
      let p_have = whole_have_bits j l lane inverse_products (first 9 inverse ++ first 22 sums) products (i_bits ++ s_bits) 18
      (ap length is_products) is_products both in
      cell_by_bits r (λ xs. inverse_box (xs ++ 1 ∷ [])) refl
      (subst (λ x. HaveBits j l lane x (inverse_box bits)) (sym is)
      (run_have_bits j l lane output_sums (first 18 products) p_bits p_have))
