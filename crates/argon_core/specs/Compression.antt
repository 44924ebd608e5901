-- The compression function G of Argon2 (RFC 9106, 3.5 and 3.6). A block is a list of 128 words, of
-- which words 16 r to 16 r + 15 are row r of a square of eight by eight registers, two words to a
-- register.
use Rattle.std.specs.Prelude.{ℕ, ◌+◌, ◌*◌, ◌/◌, ◌%◌, ◌^◌, List, [], ◌∷◌, bit_xor, map, slice_index}
use Rattle.std.specs.List.{range_with_len}
use Rattle.argon_core.specs.Words.{xor_rotate}

-- the block whose word i is f i
abbrev pub block_of : (ℕ → ℕ) → List ℕ
block_of f = map f (range_with_len 0 128)

-- the sum of two words and twice the product of their low halves (3.6)
abbrev pub multiply_add : ℕ → ℕ → ℕ
multiply_add a b = (a + b + 2 * (a % 2 ^ 32) * (b % 2 ^ 32)) % 2 ^ 64

-- the function GB on four words (3.6)
unfoldable pub mix_product : ℕ → ℕ → ℕ → ℕ → ℕ × ℕ × ℕ × ℕ
mix_product a b c d =
    let a1 = multiply_add a b in
    let d1 = xor_rotate d a1 32 in
    let c1 = multiply_add c d1 in
    let b1 = xor_rotate b c1 24 in
    let a2 = multiply_add a1 b1 in
    let d2 = xor_rotate d1 a2 16 in
    let c2 = multiply_add c1 d2 in
    let b2 = xor_rotate b1 c2 63 in
    (a2, b2, c2, d2)

-- GB at four places of sixteen words
abbrev pub mix_product_at : List ℕ → ℕ → ℕ → ℕ → ℕ → ℕ × ℕ × ℕ × ℕ
mix_product_at v a b c d = mix_product (slice_index v a) (slice_index v b) (slice_index v c)
    (slice_index v d)

-- sixteen words, read as a square of four by four: GB on each column (3.6)
unfoldable pub mixed_columns : List ℕ → List ℕ
mixed_columns v =
    let q0 = mix_product_at v 0 4 8 12 in
    let q1 = mix_product_at v 1 5 9 13 in
    let q2 = mix_product_at v 2 6 10 14 in
    let q3 = mix_product_at v 3 7 11 15 in
    q0.0 ∷ q1.0 ∷ q2.0 ∷ q3.0
    ∷ q0.1 ∷ q1.1 ∷ q2.1 ∷ q3.1
    ∷ q0.2 ∷ q1.2 ∷ q2.2 ∷ q3.2
    ∷ q0.3 ∷ q1.3 ∷ q2.3 ∷ q3.3 ∷ []

-- GB on each of its diagonals (3.6)
unfoldable pub mixed_diagonals : List ℕ → List ℕ
mixed_diagonals v =
    let q0 = mix_product_at v 0 5 10 15 in
    let q1 = mix_product_at v 1 6 11 12 in
    let q2 = mix_product_at v 2 7 8 13 in
    let q3 = mix_product_at v 3 4 9 14 in
    q0.0 ∷ q1.0 ∷ q2.0 ∷ q3.0
    ∷ q3.1 ∷ q0.1 ∷ q1.1 ∷ q2.1
    ∷ q2.2 ∷ q3.2 ∷ q0.2 ∷ q1.2
    ∷ q1.3 ∷ q2.3 ∷ q3.3 ∷ q0.3 ∷ []

-- the permutation P of sixteen words (3.6)
unfoldable pub permutation : List ℕ → List ℕ
permutation v = mixed_diagonals (mixed_columns v)

-- the words of row r of a block
abbrev pub row : List ℕ → ℕ → List ℕ
row block r =
    slice_index block (16 * r) ∷ slice_index block (16 * r + 1) ∷ slice_index block (16 * r + 2) ∷
    slice_index block (16 * r + 3)
    ∷ slice_index block (16 * r + 4) ∷ slice_index block (16 * r + 5) ∷ slice_index block
    (16 * r + 6) ∷ slice_index block (16 * r + 7)
    ∷ slice_index block (16 * r + 8) ∷ slice_index block (16 * r + 9) ∷ slice_index block
    (16 * r + 10) ∷ slice_index block (16 * r + 11)
    ∷ slice_index block (16 * r + 12) ∷ slice_index block (16 * r + 13) ∷ slice_index block
    (16 * r + 14) ∷ slice_index block (16 * r + 15) ∷ []

-- the words of column j of a block, two of each row
abbrev pub column : List ℕ → ℕ → List ℕ
column block j =
    slice_index block (2 * j) ∷ slice_index block (2 * j + 1) ∷ slice_index block (2 * j + 16) ∷
    slice_index block (2 * j + 17)
    ∷ slice_index block (2 * j + 32) ∷ slice_index block (2 * j + 33) ∷ slice_index block
    (2 * j + 48) ∷ slice_index block (2 * j + 49)
    ∷ slice_index block (2 * j + 64) ∷ slice_index block (2 * j + 65) ∷ slice_index block
    (2 * j + 80) ∷ slice_index block (2 * j + 81)
    ∷ slice_index block (2 * j + 96) ∷ slice_index block (2 * j + 97) ∷ slice_index block
    (2 * j + 112) ∷ slice_index block (2 * j + 113) ∷ []

-- P on each row of a block (3.5)
unfoldable pub permuted_rows : List ℕ → List ℕ
permuted_rows block = block_of (λ i. slice_index (permutation (row block (i / 16))) (i % 16))

-- P on each column of a block (3.5)
unfoldable pub permuted_columns : List ℕ → List ℕ
permuted_columns block = block_of (λ i. slice_index (permutation (column block (i % 16 / 2)))
    (2 * (i / 16) + i % 2))

-- the exclusive or of two blocks
unfoldable pub xor_blocks : List ℕ → List ℕ → List ℕ
xor_blocks x y = block_of (λ i. bit_xor (slice_index x i) (slice_index y i))

-- G of two blocks (3.5)
abbrev pub compression : List ℕ → List ℕ → List ℕ
compression x y = let r = xor_blocks x y in xor_blocks (permuted_columns (permuted_rows r)) r
