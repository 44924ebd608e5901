-- Blocks word by word.
use Rattle.std.proofs.Common.{◌≡◌, ℕ, ◌<◌, ◌+◌, ◌*◌, ◌/◌, ◌%◌, Bool, true, false, if◌then◌else◌, List, bit_xor, slice_index, length, sym, ap, ◌∙◌, arith}
use Rattle.std.specs.Int.Bits.{xor_assoc}
use Rattle.std.proofs.lemmas.Nat.{xor_comm}
use Rattle.std.proofs.lemmas.List.FromFn.{fill_by_all, get_or-map-range_with_len, length-map-range_with_len}
use Rattle.argon_core.specs.Compression.{block_of, column, compression, permutation, permuted_columns, permuted_rows, xor_blocks}

-- a word of a block that a function gives
word_of_block : (f : ℕ → ℕ) (k : ℕ) → k < 128 → slice_index (block_of f) k ≡ f k
word_of_block f k h = get_or-map-range_with_len f 0 128 k k 0 h (omega arith)

-- a word of the permuted columns
pub columns_at : (block : List ℕ) (k : ℕ) → k < 128
    → slice_index (permuted_columns block) k ≡ slice_index (permutation (column block (k % 16 / 2))) (2 * (k / 16) + k % 2)
unfolding permuted_columns
columns_at block k h = word_of_block (λ i. slice_index (permutation (column block (i % 16 / 2))) (2 * (i / 16) + i % 2)) k h

-- a word of the exclusive or of two blocks
xor_at : (x y : List ℕ) (k : ℕ) → k < 128 → slice_index (xor_blocks x y) k ≡ bit_xor (slice_index x k) (slice_index y k)
unfolding xor_blocks
xor_at x y k h = word_of_block (λ i. bit_xor (slice_index x i) (slice_index y i)) k h

-- how long it is
xor_len : (x y : List ℕ) → length (xor_blocks x y) ≡ 128
unfolding xor_blocks
xor_len x y = length-map-range_with_len (λ i. bit_xor (slice_index x i) (slice_index y i)) 0 128

-- the order of two blocks doesn't matter
pub blocks_swapped : (x y : List ℕ) → xor_blocks x y ≡ xor_blocks y x
unfolding xor_blocks
blocks_swapped x y = λ i. block_of (λ k. xor_comm (slice_index x k) (slice_index y k) i)

-- two of three words, exchanged
words_exchanged : (x y z : ℕ) → bit_xor (bit_xor x y) z ≡ bit_xor (bit_xor z y) x
words_exchanged x y z = xor_comm (bit_xor x y) z ∙ ap (bit_xor z) (xor_comm x y) ∙ sym (xor_assoc z y x)

-- two of three blocks, exchanged
blocks_exchanged : (x y z : List ℕ) → xor_blocks (xor_blocks x y) z ≡ xor_blocks (xor_blocks z y) x
unfolding xor_blocks
blocks_exchanged x y z =
    fill_by_all (λ k. bit_xor (slice_index (xor_blocks z y) k) (slice_index x k)) (xor_blocks (xor_blocks x y) z) 128 0 (xor_len (xor_blocks x y) z)
    (λ k h. xor_at (xor_blocks x y) z k h
    ∙ ap (λ (w : ℕ). bit_xor w (slice_index z k)) (xor_at x y k h)
    ∙ words_exchanged (slice_index x k) (slice_index y k) (slice_index z k)
    ∙ sym (ap (λ (w : ℕ). bit_xor w (slice_index x k)) (xor_at z y k h)))

-- the function G of two blocks, and a third: what is mixed in before the permutations and what after
pub mixed_onto : (x y old : List ℕ) (is_first : Bool)
    → xor_blocks (if is_first then xor_blocks y x else xor_blocks old (xor_blocks y x)) (permuted_columns (permuted_rows (xor_blocks y x)))
    ≡ (if is_first then compression x y else xor_blocks (compression x y) old)
mixed_onto x y old true =
    blocks_swapped _ _
    ∙ ap (λ (r : List ℕ). xor_blocks (permuted_columns (permuted_rows r)) r) (blocks_swapped y x)
mixed_onto x y old false =
    blocks_exchanged old (xor_blocks y x) (permuted_columns (permuted_rows (xor_blocks y x)))
    ∙ ap (λ (r : List ℕ). xor_blocks (xor_blocks (permuted_columns (permuted_rows r)) r) old) (blocks_swapped y x)
