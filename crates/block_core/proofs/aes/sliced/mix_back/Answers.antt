use Rattle.aes_slices.proofs.SliceLemmas.{cell_lt}
use Rattle.block_core.proofs.SlicedSteps.{block_mixed_back}
use Rattle.block_core.proofs.aes.sliced.mix_back.Goals as goal

pub returns : goal.returns
returns c j eight =
    block_mixed_back c.args.s c.inv_mix_columns.result j (cell_lt c.args.s j) (λ l lane. c.inv_mix_columns.ensures j l eight lane)
