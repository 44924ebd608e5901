use Rattle.find_references.proofs.Limits.{within_limits}
use Rattle.find_references.proofs.laws.limits_are_exact.Goals as goal

pub returns : goal.returns
returns c = within_limits
