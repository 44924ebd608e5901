use Rattle.std.proofs.Common.{mod-lt, arith}
use Rattle.argon_core.proofs.Limits.{segment_len-least}
use Rattle.argon_core.proofs.params.Instance.other_column.Goals as goal

pub nonzero_rem-result : goal.nonzero_rem-result
nonzero_rem-result c = rw c.lane_len.ensures.len (omega (arith, segment_len-least c.args.self.now.params c.requires.limits))

pub returns-clause-within : goal.returns-clause-within
returns-clause-within c =
    rw c.lane_len.ensures.len (mod-lt _ (omega (arith, segment_len-least c.args.self.now.params c.requires.limits)))
