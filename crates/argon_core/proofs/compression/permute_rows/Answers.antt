use Rattle.std.proofs.Common.{◌≡◌, ◌+◌, ◌*◌, ◌/◌, ◌%◌, slice_index, ap, ◌∙◌, sym, inl, inr, arith, ℕ, List}
use Rattle.std.proofs.lemmas.Bool.{cases_lt}
use Rattle.std.proofs.lemmas.List.FromFn.{fill_by_all}
use Rattle.argon_core.specs.Compression.{permutation, permuted_rows, row}
use Rattle.argon_core.proofs.Registers.{row_same}
use Rattle.argon_core.proofs.compression.permute_rows.Goals as goal

pub rows-preserved : goal.rows-preserved
rows-preserved c =
    let r = c.rows.r in
    let inv = c.rows.invariant in
    let put = c.put_row.ensures in
    let same = row_same c.rows.block c.args.block.now r (λ i h. inv.left i (omega arith)) in
    record {
      done = λ i h. elim (cases_lt (i / 16) r) [
        | inl below ↦ put.others i (omega arith) ∙ inv.done i below
        | inr above ↦
            let here : i / 16 ≡ r = omega arith in
            let at : 16 * r + i % 16 ≡ i = omega arith in
            let words = c.words_of-words.ensures ∙ c.permute.ensures ∙ ap permutation (c.row.ensures ∙ same ∙ ap (λ (k : ℕ). row c.args.block.now k) (sym here)) in
            rw at at (put.here (i % 16) (omega arith)) ∙ ap (λ (ws : List ℕ). slice_index ws (i % 16)) words
      ];
      left = λ i h. put.others i (omega arith) ∙ inv.left i (omega arith);
      len = omega arith;
    }

pub returns : goal.returns
unfolding permuted_rows
returns c = fill_by_all _ c.rows.block 128 0 c.rows.invariant.len (λ k h. c.rows.invariant.done k (omega arith))
