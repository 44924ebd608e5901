use Rattle.block_core.proofs.SlicedSteps.{block_added}
use Rattle.block_core.proofs.aes.sliced.add_round_key.Goals as goal

pub returns : goal.returns
returns c j eight = block_added c.args.s c.sum.result j c.args.key (λ l lane. c.sum.ensures j l eight lane)
