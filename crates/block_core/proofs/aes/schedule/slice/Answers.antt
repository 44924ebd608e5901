use Rattle.std.proofs.Common.{◌+◌, ◌*◌, [], ap, ◌∙◌, arith, below_more}
use Rattle.std.proofs.lemmas.Simd.{get_or-replicate}
use Rattle.aes_slices.specs.Slices.{block}
use Rattle.block_core.proofs.SlicedSteps.{same_slices, slices_here}
use Rattle.block_core.proofs.aes.schedule.slice.Goals as goal

pub slices-preserved : goal.slices-preserved
slices-preserved c =
    below_more _ _
    (λ k h j eight. ap (λ s. block s j) (same_slices c.slices.keys c.put_slices.new.keys k
    (λ b bit. c.put_slices.ensures.before (8 * k + b) (omega arith))) ∙ c.slices.invariant k h j eight)
    (λ j eight. slices_here c.put_slices.new.keys c.pack.result c.slices.r j c.put_slices.ensures.here
    ∙ c.pack.ensures j eight ∙ get_or-replicate 8 j c.round_key.result [] eight ∙ c.round_key.ensures)

pub returns : goal.returns
returns c = λ r j h eight. c.slices.invariant r (omega arith) j eight
