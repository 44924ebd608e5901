use Rattle.std.proofs.Common.{refl}
use Rattle.argon_core.specs.Argon2.{segment_len}
use Rattle.argon_core.proofs.params.Instance.segment_len.Goals as goal

pub returns : goal.returns
unfolding segment_len
returns c = refl
