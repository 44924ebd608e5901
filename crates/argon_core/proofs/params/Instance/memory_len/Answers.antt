use Rattle.std.proofs.Common.{arith}
use Rattle.argon_core.proofs.Limits.{memory_len-most}
use Rattle.argon_core.proofs.params.Instance.memory_len.Goals as goal

pub overflow_mul-result : goal.overflow_mul-result
overflow_mul-result c = rw c.lane_len.ensures.len (omega (arith, memory_len-most c.args.self.now.params c.requires))

pub returns-clause-few : goal.returns-clause-few
returns-clause-few c = rw c.lane_len.ensures.len (omega (arith, memory_len-most c.args.self.now.params c.requires))
