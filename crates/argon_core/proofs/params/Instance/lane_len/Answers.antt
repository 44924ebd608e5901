use Rattle.std.proofs.Common.{arith}
use Rattle.argon_core.proofs.Limits.{lane_len-most}
use Rattle.argon_core.proofs.params.Instance.lane_len.Goals as goal

pub overflow_mul-result : goal.overflow_mul-result
overflow_mul-result c = rw c.segment_len.ensures (omega (arith, lane_len-most c.args.self.now.params c.requires))

pub returns-clause-few : goal.returns-clause-few
returns-clause-few c = rw c.segment_len.ensures (omega (arith, lane_len-most c.args.self.now.params c.requires))
