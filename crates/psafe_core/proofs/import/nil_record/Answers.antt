use Rattle.std.proofs.Common.{sym, ◌∙◌}
use Rattle.psafe_core.proofs.Records.{nil_here, nil_later}
use Rattle.psafe_core.proofs.import.nil_record.Goals as goal

pub returns-then-has_nil_id : goal.returns-then-has_nil_id
returns-then-has_nil_id c =
    nil_here c.args.records.now c.loop-at.at _ c.loop-at-test.true _ c.loop-at.invariant (sym c.has_nil_id.ensures ∙ c.if-has_nil_id.true)

pub loop-at-preserved : goal.loop-at-preserved
loop-at-preserved c =
    nil_later c.args.records.now c.loop-at.at _ c.loop-at-test.true _ c.loop-at.invariant (sym c.has_nil_id.ensures ∙ c.if-has_nil_id.false)
