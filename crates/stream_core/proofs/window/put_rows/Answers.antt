use Rattle.std.proofs.Common.{◌≡◌, ℕ, ◌+◌, ◌/◌, ◌%◌, ◌<◌, List, [], ◌∷◌, slice_index, slice_index_or, arith, refl, ap, ◌∙◌}
use Rattle.std.specs.Int.{w32, to_le_bytes}
use Rattle.stream_core.proofs.LaneLemmas.{below_four}
use Rattle.stream_core.proofs.window.put_rows.Goals as goal

-- the words of one lane of four vectors
one_lane : (a b c d : List ℕ) (j k : ℕ) → k < 4
    → slice_index (slice_index a j ∷ slice_index b j ∷ slice_index c j ∷ slice_index d j ∷ []) k
    ≡ slice_index (slice_index_or (a ∷ b ∷ c ∷ d ∷ []) k []) j
one_lane a b c d j = below_four _ refl refl refl refl

-- a byte of a row that stands at a place, where the row is made of one lane
row_at : (xs row a b c d : List ℕ) (j at i : ℕ)
    → ((r : ℕ) → r < 16 → slice_index xs (at + r) ≡ slice_index (to_le_bytes w32 (slice_index row (r / 4))) (r % 4))
    → row ≡ slice_index a j ∷ slice_index b j ∷ slice_index c j ∷ slice_index d j ∷ []
    → i ≡ at + i % 16
    → slice_index xs i ≡ slice_index (to_le_bytes w32 (slice_index (slice_index_or (a ∷ b ∷ c ∷ d ∷ []) (i % 16 / 4) []) j)) (i % 4)
row_at xs row a b c d j at i here lanes place =
    let small : i % 16 < 16 = omega arith in
    let word : i % 16 / 4 < 4 = omega arith in
    let byte : i % 16 % 4 ≡ i % 4 = omega arith in
    ap (slice_index xs) place ∙ here (i % 16) small
    ∙ ap (λ ws. slice_index (to_le_bytes w32 (slice_index ws (i % 16 / 4))) (i % 16 % 4)) lanes
    ∙ ap (λ w. slice_index (to_le_bytes w32 w) (i % 16 % 4)) (one_lane a b c d j (i % 16 / 4) word)
    ∙ ap (slice_index (to_le_bytes w32 (slice_index (slice_index_or (a ∷ b ∷ c ∷ d ∷ []) (i % 16 / 4) []) j))) byte

pub returns-clause-here : goal.returns-clause-here
returns-clause-here c i below column =
    let rows = c.transposed.ensures in
    below_four (λ j. i / 64 ≡ j → slice_index c.put_row-4.new.window i
    ≡ slice_index (to_le_bytes w32 (slice_index (slice_index_or (c.args.a ∷ c.args.b ∷ c.args.c ∷ c.args.d ∷ []) (i % 16 / 4) []) j)) (i % 4))
    (λ block. c.put_row-4.ensures.before i (omega arith) ∙ c.put_row-3.ensures.before i (omega arith) ∙ c.put_row-2.ensures.before i (omega arith)
    ∙ row_at _ _ _ _ _ _ 0 _ i c.put_row.ensures.here rows.row0 (omega arith))
    (λ block. c.put_row-4.ensures.before i (omega arith) ∙ c.put_row-3.ensures.before i (omega arith)
    ∙ row_at _ _ _ _ _ _ 1 _ i c.put_row-2.ensures.here rows.row1 (omega arith))
    (λ block. c.put_row-4.ensures.before i (omega arith)
    ∙ row_at _ _ _ _ _ _ 2 _ i c.put_row-3.ensures.here rows.row2 (omega arith))
    (λ block. row_at _ _ _ _ _ _ 3 _ i c.put_row-4.ensures.here rows.row3 (omega arith))
    (i / 64) (omega arith) refl
