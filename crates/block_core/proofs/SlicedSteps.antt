-- The steps of deciphering on the blocks of slices, from their cells.
use Rattle.std.proofs.Common.{◌≡◌, ℕ, ◌+◌, ◌-◌, ◌*◌, ◌/◌, ◌%◌, ◌<◌, List, [], ◌∷◌, map, slice_index, slice_index_or, refl, sym, ap, ◌∙◌, arith, bit_xor}
use Rattle.aes_slices.specs.Slices.{from_bits, cell, block, times_x, mixed_before, mixed_row, mixed_back}
use Rattle.std.specs.List.{range_with_len}
use Rattle.aes_slices.specs.InverseBox.{gates_byte}
use Rattle.aes_slices.proofs.BitLemmas.{below_eight}
use Rattle.aes_slices.proofs.SliceLemmas.{cell_moved}
use Rattle.block_core.specs.AesKeys.{slices_at}
use Rattle.block_core.specs.declared.aes.sbox.TheConstants.{INV_SBOX}
use Rattle.block_core.specs.Field.{times_bits, combination}
use Rattle.block_core.specs.Blocks.{xor_block}
use Rattle.block_core.specs.Aes.{modulus, inv_sub_byte, inv_sub_bytes, inv_shift_rows, inv_mix_columns}
use Rattle.block_core.specs.Laws.Sums.{from_table, xor_swap, times_x-xor, KeepsSums, apart, combination-xor}
use Rattle.block_core.proofs.ByteTables.{inv_sbox_at}

-- the gates give the inverse S-box
pub gates_byte_at : (b : ℕ) → b < 256 → gates_byte b ≡ inv_sub_byte b
unfolding gates_byte from_bits
gates_byte_at b h = from_table 0 gates_byte (slice_index INV_SBOX) 256 refl b h ∙ inv_sbox_at b h

-- ---- a mixed column

mixed_before-xor : (a c p r : ℕ) → mixed_before (bit_xor a p) (bit_xor c r) ≡ bit_xor (mixed_before a c) (mixed_before p r)
mixed_before-xor a c p r =
    let sums : bit_xor (bit_xor a p) (bit_xor c r) ≡ bit_xor (bit_xor a c) (bit_xor p r) = xor_swap a p c r in
    let four : times_x (times_x (bit_xor (bit_xor a p) (bit_xor c r))) ≡ bit_xor (times_x (times_x (bit_xor a c))) (times_x (times_x (bit_xor p r))) =
    ap (λ x. times_x (times_x x)) sums ∙ ap times_x (times_x-xor modulus (bit_xor a c) (bit_xor p r))
    ∙ times_x-xor modulus (times_x (bit_xor a c)) (times_x (bit_xor p r)) in
    ap (bit_xor (bit_xor a p)) four ∙ xor_swap a p (times_x (times_x (bit_xor a c))) (times_x (times_x (bit_xor p r)))

mixed-xor : KeepsSums mixed_row
mixed-xor a b c d p q r s =
    let rest : bit_xor (bit_xor b q) (bit_xor (bit_xor c r) (bit_xor d s)) ≡ bit_xor (bit_xor b (bit_xor c d)) (bit_xor q (bit_xor r s)) =
    ap (bit_xor (bit_xor b q)) (xor_swap c r d s) ∙ xor_swap b q (bit_xor c d) (bit_xor r s) in
    let two : times_x (bit_xor (bit_xor a p) (bit_xor b q)) ≡ bit_xor (times_x (bit_xor a b)) (times_x (bit_xor p q)) =
    ap times_x (xor_swap a p b q) ∙ times_x-xor modulus (bit_xor a b) (bit_xor p q) in
    (λ i. bit_xor (rest i) (two i))
    ∙ xor_swap (bit_xor b (bit_xor c d)) (bit_xor q (bit_xor r s)) (times_x (bit_xor a b)) (times_x (bit_xor p q))

mixed_back-xor : KeepsSums mixed_back
mixed_back-xor a b c d p q r s =
    (λ i. mixed_row (mixed_before-xor a c p r i) (mixed_before-xor b d q s i) (mixed_before-xor c a r p i) (mixed_before-xor d b s q i))
    ∙ mixed-xor (mixed_before a c) (mixed_before b d) (mixed_before c a) (mixed_before d b)
    (mixed_before p r) (mixed_before q s) (mixed_before r p) (mixed_before s q)

-- a row of a column that is mixed back
abbrev inv_row : ℕ → ℕ → ℕ → ℕ → ℕ
inv_row = combination modulus 0x0e 0x0b 0x0d 0x09

mixed_back_at : (a b c d : ℕ) → a < 256 → b < 256 → c < 256 → d < 256 → mixed_back a b c d ≡ inv_row a b c d
unfolding times_bits
mixed_back_at a b c d ha hb hc hd =
    apart mixed_back mixed_back-xor a b c d
    ∙ (λ i. bit_xor
    (bit_xor (from_table 0 (λ a. mixed_back a 0 0 0) (λ a. inv_row a 0 0 0) 256 refl a ha i)
    (from_table 0 (λ b. mixed_back 0 b 0 0) (λ b. inv_row 0 b 0 0) 256 refl b hb i))
    (bit_xor (from_table 0 (λ c. mixed_back 0 0 c 0) (λ c. inv_row 0 0 c 0) 256 refl c hc i)
    (from_table 0 (λ d. mixed_back 0 0 0 d) (λ d. inv_row 0 0 0 d) 256 refl d hd i)))
    ∙ sym (apart inv_row (combination-xor modulus 0x0e 0x0b 0x0d 0x09) a b c d)

-- ---- blocks

-- the block whose bytes by rows are these
abbrev by_columns : (ℕ → ℕ) → List ℕ
by_columns f = f 0 ∷ f 4 ∷ f 8 ∷ f 12 ∷ f 1 ∷ f 5 ∷ f 9 ∷ f 13 ∷ f 2 ∷ f 6 ∷ f 10 ∷ f 14 ∷ f 3 ∷ f 7 ∷ f 11 ∷ f 15 ∷ []

same_columns : (f g : ℕ → ℕ) → ((l : ℕ) → l < 16 → f l ≡ g l) → by_columns f ≡ by_columns g
same_columns f g each = λ k.
    each 0 (omega arith) k ∷ each 4 (omega arith) k ∷ each 8 (omega arith) k ∷ each 12 (omega arith) k
    ∷ each 1 (omega arith) k ∷ each 5 (omega arith) k ∷ each 9 (omega arith) k ∷ each 13 (omega arith) k
    ∷ each 2 (omega arith) k ∷ each 6 (omega arith) k ∷ each 10 (omega arith) k ∷ each 14 (omega arith) k
    ∷ each 3 (omega arith) k ∷ each 7 (omega arith) k ∷ each 11 (omega arith) k ∷ each 15 (omega arith) k ∷ []

module _ (s r : List (List ℕ)) (j : ℕ) where
  pub block_added : (t : List (List ℕ)) → ((l : ℕ) → l < 16 → cell r j l ≡ bit_xor (cell s j l) (cell t j l))
      → block r j ≡ xor_block (block s j) (block t j)
  unfolding xor_block
  block_added t each = same_columns (cell r j) (λ l. bit_xor (cell s j l) (cell t j l)) each

  pub block_substituted : ((l : ℕ) → l < 16 → cell s j l < 256) → ((l : ℕ) → l < 16 → cell r j l ≡ gates_byte (cell s j l))
      → block r j ≡ inv_sub_bytes (block s j)
  unfolding inv_sub_bytes
  block_substituted bytes each =
      same_columns (cell r j) (λ l. inv_sub_byte (cell s j l)) (λ l h. each l h ∙ gates_byte_at (cell s j l) (bytes l h))

  pub block_shifted : ((l : ℕ) → l < 16 → cell r j l ≡ cell s j (4 * (l / 4) + (l % 4 + 4 - l / 4) % 4))
      → block r j ≡ inv_shift_rows (block s j)
  unfolding inv_shift_rows
  block_shifted each = same_columns (cell r j) (λ l. cell s j (4 * (l / 4) + (l % 4 + 4 - l / 4) % 4)) each

  pub block_mixed_back : ((l : ℕ) → cell s j l < 256) → ((l : ℕ) → l < 16
      → cell r j l ≡ mixed_back (cell s j l) (cell s j ((l + 4) % 16)) (cell s j ((l + 8) % 16)) (cell s j ((l + 12) % 16)))
      → block r j ≡ inv_mix_columns (block s j)
  unfolding inv_mix_columns
  block_mixed_back bytes each =
      same_columns (cell r j) (λ l. inv_row (cell s j l) (cell s j ((l + 4) % 16)) (cell s j ((l + 8) % 16)) (cell s j ((l + 12) % 16)))
      (λ l h. each l h ∙ mixed_back_at (cell s j l) (cell s j ((l + 4) % 16)) (cell s j ((l + 8) % 16)) (cell s j ((l + 12) % 16))
      (bytes l) (bytes ((l + 4) % 16)) (bytes ((l + 8) % 16)) (bytes ((l + 12) % 16)))

-- ---- the slices of the round keys

-- round r's slices stay where each of its vectors does
pub same_slices : (keys new : List (List ℕ)) (r : ℕ) → ((b : ℕ) → b < 8 → slice_index_or new (8 * r + b) [] ≡ slice_index_or keys (8 * r + b) [])
    → slices_at new r ≡ slices_at keys r
same_slices keys new r each =
    let none : 8 * r + 0 ≡ 8 * r = omega arith in
    λ i. (ap (λ k. slice_index_or new k []) (sym none) ∙ each 0 (omega arith) ∙ ap (λ k. slice_index_or keys k []) none) i
    ∷ each 1 (omega arith) i ∷ each 2 (omega arith) i ∷ each 3 (omega arith) i
    ∷ each 4 (omega arith) i ∷ each 5 (omega arith) i ∷ each 6 (omega arith) i ∷ each 7 (omega arith) i ∷ []

-- a block of the slices that were put down
pub slices_here : (new s : List (List ℕ)) (r j : ℕ) → ((b : ℕ) → b < 8 → slice_index_or new (8 * r + b) [] ≡ slice_index_or s b [])
    → block (slices_at new r) j ≡ block s j
slices_here new s r j each =
    let none : 8 * r + 0 ≡ 8 * r = omega arith in
    let vectors : slices_at new r ≡ map (λ b. slice_index_or s b []) (range_with_len 0 8) =
    (λ i. (ap (λ k. slice_index_or new k []) (sym none) ∙ each 0 (omega arith)) i
    ∷ each 1 (omega arith) i ∷ each 2 (omega arith) i ∷ each 3 (omega arith) i
    ∷ each 4 (omega arith) i ∷ each 5 (omega arith) i ∷ each 6 (omega arith) i ∷ each 7 (omega arith) i ∷ []) in
    ap (λ x. block x j) vectors
    ∙ same_columns (cell (map (λ b. slice_index_or s b []) (range_with_len 0 8)) j) (cell s j)
    (λ l h. cell_moved s (map (λ b. slice_index_or s b []) (range_with_len 0 8)) j l l (below_eight _ refl refl refl refl refl refl refl refl))
