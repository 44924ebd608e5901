use Rattle.std.proofs.Common.{arith}
use Rattle.std.proofs.lemmas.Result.{err_from_is_err_and}
use Rattle.kdbx_inner.specs.Inner.{inner_step, inner_end_missing}
use Rattle.kdbx_inner.specs.Seen.{inner_read_seen}
use Rattle.outside_core.proofs.Results.{step_ends, step_fails, step_goes_on, steps_run_out}
use Rattle.kdbx_inner.proofs.inner.read_fields.Goals as goal

pub returns-in_err-ended-clause-gives : goal.returns-in_err-ended-clause-gives
returns-in_err-ended-clause-gives c =
    let n = c.args.whole in
    let p = err_from_is_err_and c.from_residual.result c.from_residual.ensures.1 in
    rw (p.1, p.2) (step_fails (inner_step n) (inner_end_missing n) n c.fields.counter
    (inner_read_seen c.fields.read) _ _
    c.fields-test.true c.fields.invariant.so_far c.in_err-ended.ensures.gives)

pub returns-then-ended-clause-gives : goal.returns-then-ended-clause-gives
returns-then-ended-clause-gives c =
    let n = c.args.whole in
    step_ends (inner_step n) (inner_end_missing n) n c.fields.counter
    (inner_read_seen c.fields.read) _ _ _
    c.fields-test.true c.fields.invariant.so_far c.in_ok-ended.ensures.gives c.if-ended.true

pub fields-preserved : goal.fields-preserved
fields-preserved c =
    let n = c.args.whole in
    record {
      shorter = omega (arith, c.in_ok-ended.ensures.shorter, c.fields.invariant.shorter);
      so_far = step_goes_on (inner_step n) (inner_end_missing n) n c.fields.counter
          (inner_read_seen c.fields.read) _ _ _
          c.fields-test.true c.fields.invariant.so_far c.in_ok-ended.ensures.gives c.if-ended.false;
    }

pub returns-clause-gives : goal.returns-clause-gives
returns-clause-gives c =
    let n = c.args.whole in
    steps_run_out (inner_step n) (inner_end_missing n) n c.fields.counter
    (inner_read_seen c.fields.read) _
    c.fields-test.false c.fields.invariant.so_far
