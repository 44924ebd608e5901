use Rattle.std.proofs.Common.{◌≡◌, ◌<◌, ◌≢◌, ◌+◌, ◌*◌, ℕ, [], length, slice_index_or, ◌∙◌, arith, get_or-set_other, get_or-set_same, below_more}
use Rattle.std.proofs.Math.ListN.{length-set}
use Rattle.block_core.proofs.aes.schedule.put_slices.Goals as goal

pub slices-preserved : goal.slices-preserved
slices-preserved c =
    let place : ℕ = 8 * c.args.r + c.slices.b in
    let vector = slice_index_or c.args.s c.slices.b [] in
    let size : length c.slices.keys ≡ 120 = c.slices.invariant.0 in
    let within : place < length c.slices.keys = omega arith in (
      length-set c.slices.keys place vector ∙ size,
      below_more _ _
          (λ k h. let other : 8 * c.args.r + k ≢ place = omega arith in
          get_or-set_other c.slices.keys place (8 * c.args.r + k) vector [] other ∙ c.slices.invariant.1 k h)
          (get_or-set_same c.slices.keys place vector [] within),
      λ k h. let other : k ≢ place = omega arith in get_or-set_other c.slices.keys place k vector [] other ∙ c.slices.invariant.2 k h,
    )

pub returns-clause-here : goal.returns-clause-here
returns-clause-here c b h = c.slices.invariant.1 b (omega arith)

pub returns-clause-before : goal.returns-clause-before
returns-clause-before c k h = c.slices.invariant.2 k h
