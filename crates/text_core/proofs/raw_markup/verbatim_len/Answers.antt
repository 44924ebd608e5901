use Rattle.std.proofs.Common.{arith}
use Rattle.text_core.proofs.LaneRuns.{run_ends, run_goes_on}
use Rattle.text_core.proofs.raw_markup.verbatim_len.Goals as goal

pub returns-then-more-lt-LANES-clause-len : goal.returns-then-more-lt-LANES-clause-len
returns-then-more-lt-LANES-clause-len c =
    let end = run_ends c.args.text.now c.loop-len.len c.verbatim_lanes-more.result (omega arith) c.verbatim_lanes-more.ensures c.if-more-lt-LANES.true in
    omega (arith, c.loop-len.invariant.0, end)

pub loop-len-preserved : goal.loop-len-preserved
loop-len-preserved c =
    let more = run_goes_on c.args.text.now c.loop-len.len c.verbatim_lanes-more.result (omega arith) c.verbatim_lanes-more.ensures c.if-more-lt-LANES.false in
    (omega (arith, c.loop-len.invariant.0, more), omega arith)
