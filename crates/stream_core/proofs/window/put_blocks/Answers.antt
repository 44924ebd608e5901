use Rattle.std.proofs.Common.{◌≡◌, ℕ, ◌+◌, ◌*◌, ◌/◌, ◌%◌, ◌<◌, List, [], ◌∷◌, slice_index, slice_index_or, arith, refl, ap, ◌∙◌, inl, inr}
use Rattle.std.specs.Int.{w32, to_le_bytes}
use Rattle.std.proofs.lemmas.Bool.{cases_eq}
use Rattle.stream_core.proofs.LaneLemmas.{below_four}
use Rattle.stream_core.proofs.window.put_blocks.Goals as goal

-- the vectors of one row, among the sixteen
one_row : (v : List (List ℕ)) (q k : ℕ) → k < 4
    → slice_index_or (slice_index_or v (4 * q) [] ∷ slice_index_or v (4 * q + 1) [] ∷ slice_index_or v (4 * q + 2) [] ∷ slice_index_or v (4 * q + 3) [] ∷ []) k []
    ≡ slice_index_or v (4 * q + k) []
one_row v q =
    let first : 4 * q ≡ 4 * q + 0 = omega arith in
    below_four _ (ap (λ n. slice_index_or v n []) first) refl refl refl

pub rows-preserved : goal.rows-preserved
rows-preserved c i below seen =
    elim (cases_eq (i % 64 / 16) c.rows.q) [
      | inl here ↦
          let row : i % 16 / 4 < 4 = omega arith in
          let place : 4 * c.rows.q + i % 16 / 4 ≡ i % 64 / 4 = omega arith in
          c.put_rows.ensures.here i below here
          ∙ ap (λ v. slice_index (to_le_bytes w32 (slice_index v (i / 64))) (i % 4))
          (one_row c.args.words.now c.rows.q (i % 16 / 4) row ∙ ap (λ n. slice_index_or c.args.words.now n []) place)
      | inr elsewhere ↦
          let above : i % 64 / 16 < c.rows.q = omega arith in
          c.put_rows.ensures.elsewhere i below elsewhere ∙ c.rows.invariant i below above
    ]
