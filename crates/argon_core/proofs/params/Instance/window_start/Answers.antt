use Rattle.std.proofs.Common.{◌+◌, ◌%◌, arith}
use Rattle.argon_core.proofs.Limits.{some_slices-most}
use Rattle.argon_core.proofs.params.Instance.window_start.Goals as goal

pub overflow_mul-result : goal.overflow_mul-result
overflow_mul-result c =
    rw c.segment_len.ensures (omega (arith, some_slices-most c.args.self.now.params c.requires.limits ((c.args.at.slice + 1) % 4) (omega arith)))

pub returns-else-at-eq0-clause-few : goal.returns-else-at-eq0-clause-few
returns-else-at-eq0-clause-few c =
    rw c.segment_len.ensures (omega (arith, some_slices-most c.args.self.now.params c.requires.limits ((c.args.at.slice + 1) % 4) (omega arith)))
