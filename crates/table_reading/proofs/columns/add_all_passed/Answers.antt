use Rattle.std.proofs.Common.{◌∙◌, arith}
use Rattle.csv.specs.Records.{fields_of}
use Rattle.table_reading.proofs.Places.{passed_step}
use Rattle.table_reading.proofs.columns.add_all_passed.Goals as goal

pub loop-at-preserved : goal.loop-at-preserved
loop-at-preserved c =
    passed_step c.args.columns.now (fields_of c.args.names.now) c.add_passed.new.passed c.loop-at.passed c.loop-at.at (omega (arith, c.loop-at-test.true, c.len-at-end.ensures)) c.in_ok-add_passed.ensures
    ∙ c.loop-at.invariant
