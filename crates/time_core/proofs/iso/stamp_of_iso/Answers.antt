-- The days and the time of a moment stay below the last stamp, and are its seconds.
use Rattle.std.proofs.Common.{arith}
use Rattle.time_core.proofs.Moments.{days_before_bound, stamp_found}
use Rattle.time_core.proofs.iso.stamp_of_iso.Goals as goal

pub overflow_mul-days : goal.overflow_mul-days
overflow_mul-days c =
    let day = c.in_ok-days.ensures in
    omega (arith, day.1, days_before_bound _ _ _ day.0)

pub overflow_add-days : goal.overflow_add-days
overflow_add-days c =
    let day = c.in_ok-days.ensures in
    omega (arith, day.1, days_before_bound _ _ _ day.0)

pub returns : goal.returns
returns c =
    let moment = c.in_ok-moment.ensures in
    let day = c.in_ok-days.ensures in
    stamp_found c.of.result c.args.text.now _ c.of.ensures record {
      moment = c.in_ok-moment.moment;
      real = (day.0, (omega arith, omega arith, omega arith));
      spelling = moment.1;
      counted = omega (arith, day.1);
    }
