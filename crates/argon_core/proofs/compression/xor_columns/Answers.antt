use Rattle.std.proofs.Common.{◌≡◌, ◌+◌, ◌*◌, ◌/◌, ◌%◌, bit_xor, slice_index, ap, ◌∙◌, sym, inl, inr, arith, ℕ}
use Rattle.std.proofs.lemmas.Bool.{cases_lt}
use Rattle.std.proofs.lemmas.List.FromFn.{fill_by_all}
use Rattle.argon_core.specs.Compression.{permutation, xor_blocks, column}
use Rattle.argon_core.proofs.BlockLemmas.{columns_at}
use Rattle.argon_core.proofs.compression.xor_columns.Goals as goal

pub columns-preserved : goal.columns-preserved
columns-preserved c =
    let j = c.columns.j in
    let inv = c.columns.invariant in
    let put = c.xor_column.ensures in
    let words = c.words_of-words.ensures ∙ c.permute.ensures ∙ ap permutation c.column.ensures in
    record {
      done = λ i fits h. elim (cases_lt (i % 16 / 2) j) [
        | inl below ↦ put.others i (omega arith) ∙ inv.done i fits below
        | inr above ↦
            let here : i % 16 / 2 ≡ j = omega arith in
            let old = inv.left i (omega arith) in
            put.here i fits here
            ∙ (λ n. bit_xor (old n) (slice_index (words n) (2 * (i / 16) + i % 2)))
            ∙ ap (λ (m : ℕ). bit_xor (slice_index c.args.into.now i) (slice_index (permutation (column c.args.block.now m)) (2 * (i / 16) + i % 2))) (sym here)
      ];
      left = λ i h. put.others i (omega arith) ∙ inv.left i (omega arith);
      len = omega arith;
    }

pub returns : goal.returns
unfolding xor_blocks
returns c = fill_by_all _ c.columns.into 128 0 c.columns.invariant.len
    (λ k h. c.columns.invariant.done k h (omega arith) ∙ ap (bit_xor (slice_index c.args.into.now k)) (sym (columns_at c.args.block.now k h)))
