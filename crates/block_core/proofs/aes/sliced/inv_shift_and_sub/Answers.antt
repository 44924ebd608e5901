use Rattle.std.proofs.Common.{ap, ◌∙◌}
use Rattle.aes_slices.proofs.SliceLemmas.{cell_lt}
use Rattle.block_core.specs.Aes.{inv_sub_bytes}
use Rattle.block_core.proofs.SlicedSteps.{block_substituted, block_shifted}
use Rattle.block_core.proofs.aes.sliced.inv_shift_and_sub.Goals as goal

pub returns : goal.returns
returns c j eight =
    block_substituted c.inv_shift_rows.result c.inv_sub_bytes.result j (λ l lane. cell_lt c.inv_shift_rows.result j l)
    (λ l lane. c.inv_sub_bytes.ensures j l eight lane)
    ∙ ap inv_sub_bytes (block_shifted c.args.s c.inv_shift_rows.result j (λ l lane. c.inv_shift_rows.ensures j l eight lane))
