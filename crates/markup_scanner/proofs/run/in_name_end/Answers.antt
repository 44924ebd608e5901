use Rattle.std.proofs.Common.{◌∙◌, arith}
use Rattle.markup_grammar.specs.Bytes.{is_name_byte}
use Rattle.markup_scanner.proofs.LaneRuns.{run_ends, run_goes_on}
use Rattle.markup_scanner.proofs.run.in_name_end.Goals as goal

pub returns-then-len-lt-LANES-clause-run : goal.returns-then-len-lt-LANES-clause-run
returns-then-len-lt-LANES-clause-run c =
    let more = run_ends is_name_byte c.args.text.now c.loop-end.end c.name_lanes-len.result (omega arith) c.name_lanes-len.ensures c.if-len-lt-LANES.true in
    omega (arith, c.loop-end.invariant.0, more)

pub loop-end-preserved : goal.loop-end-preserved
loop-end-preserved c = (
  c.loop-end.invariant.0
      ∙ run_goes_on is_name_byte c.args.text.now c.loop-end.end c.name_lanes-len.result (omega arith) c.name_lanes-len.ensures c.if-len-lt-LANES.false,
  omega arith,
  omega arith,
)
