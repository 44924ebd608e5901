use Rattle.std.proofs.Common.{◌≡◌, ◌+◌, ◌*◌, ◌/◌, ◌%◌, bit_xor, slice_index, ap, ap₂, ◌∙◌, sym, inl, inr, arith, ℕ, get_or-set_other}
use Rattle.std.proofs.lemmas.List.{length-set}
use Rattle.std.proofs.lemmas.Bool.{cases_eq}
use Rattle.std.proofs.lemmas.Grind.{get_or-set_at}
use Rattle.argon_core.proofs.compression.xor_column.Goals as goal

pub words-preserved : goal.words-preserved
words-preserved c =
    let k = c.words.k in
    let at : ℕ = 16 * (k / 2) + 2 * c.args.j + k % 2 in
    let inv = c.words.invariant in
    let block = c.words.block in
    record {
      here = λ i fits column below. elim (cases_eq i at) [
        | inl same ↦
            let word : 2 * (i / 16) + i % 2 ≡ k = omega arith in
            get_or-set_at block at i _ 0 same (omega arith)
            ∙ ap₂ bit_xor (ap (slice_index block) (sym same) ∙ inv.left i (omega arith)) (ap (slice_index c.args.words) (sym word))
        | inr apart ↦ get_or-set_other block at i _ 0 apart ∙ inv.here i fits column (omega arith)
      ];
      left = λ i h. get_or-set_other block at i _ 0 (λ same. absurd (omega arith)) ∙ inv.left i (omega arith);
      others = λ i h. get_or-set_other block at i _ 0 (λ same. h (omega arith)) ∙ inv.others i h;
      len = length-set block at _ ∙ inv.len;
    }
