-- The rows and columns of a block.
use Rattle.std.proofs.Common.{◌≡◌, ℕ, ◌+◌, ◌*◌, ◌/◌, ◌%◌, ◌<◌, List, [], ◌∷◌, slice_index, arith}
use Rattle.argon_core.specs.Compression.{row, column}

-- two blocks with the same words in a row
pub row_same : (x y : List ℕ) (r : ℕ) → ((i : ℕ) → i / 16 ≡ r → slice_index x i ≡ slice_index y i) → row x r ≡ row y r
row_same x y r h = λ i.
    h (16 * r) (omega arith) i
    ∷ h (16 * r + 1) (omega arith) i
    ∷ h (16 * r + 2) (omega arith) i
    ∷ h (16 * r + 3) (omega arith) i
    ∷ h (16 * r + 4) (omega arith) i
    ∷ h (16 * r + 5) (omega arith) i
    ∷ h (16 * r + 6) (omega arith) i
    ∷ h (16 * r + 7) (omega arith) i
    ∷ h (16 * r + 8) (omega arith) i
    ∷ h (16 * r + 9) (omega arith) i
    ∷ h (16 * r + 10) (omega arith) i
    ∷ h (16 * r + 11) (omega arith) i
    ∷ h (16 * r + 12) (omega arith) i
    ∷ h (16 * r + 13) (omega arith) i
    ∷ h (16 * r + 14) (omega arith) i
    ∷ h (16 * r + 15) (omega arith) i ∷ []

-- two blocks with the same words in a column
pub column_same : (x y : List ℕ) (j : ℕ) → j < 8 → ((i : ℕ) → i % 16 / 2 ≡ j → slice_index x i ≡ slice_index y i) → column x j ≡ column y j
column_same x y j below h = λ i.
    h (2 * j) (omega arith) i
    ∷ h (2 * j + 1) (omega arith) i
    ∷ h (2 * j + 16) (omega arith) i
    ∷ h (2 * j + 17) (omega arith) i
    ∷ h (2 * j + 32) (omega arith) i
    ∷ h (2 * j + 33) (omega arith) i
    ∷ h (2 * j + 48) (omega arith) i
    ∷ h (2 * j + 49) (omega arith) i
    ∷ h (2 * j + 64) (omega arith) i
    ∷ h (2 * j + 65) (omega arith) i
    ∷ h (2 * j + 80) (omega arith) i
    ∷ h (2 * j + 81) (omega arith) i
    ∷ h (2 * j + 96) (omega arith) i
    ∷ h (2 * j + 97) (omega arith) i
    ∷ h (2 * j + 112) (omega arith) i
    ∷ h (2 * j + 113) (omega arith) i ∷ []
