use Rattle.aes_slices.proofs.BitLemmas.{below_eight}
use Rattle.aes_slices.proofs.SliceLemmas.{cell_sum}
use Rattle.aes_slices.proofs.slices.sum.Goals as goal

pub returns : goal.returns
returns c j l block lane =
    cell_sum c.args.a c.args.b _ j l (below_eight _
    (c.xor.ensures l lane)
    (c.xor-2.ensures l lane)
    (c.xor-3.ensures l lane)
    (c.xor-4.ensures l lane)
    (c.xor-5.ensures l lane)
    (c.xor-6.ensures l lane)
    (c.xor-7.ensures l lane)
    (c.xor-8.ensures l lane))
