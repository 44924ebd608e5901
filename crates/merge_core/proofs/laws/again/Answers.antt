-- The sources' members are the target's already.
use Rattle.merge_core.proofs.PlanLaws.{merged_again}
use Rattle.merge_core.proofs.laws.again.Goals as goal

pub returns : goal.returns
returns c n S R Rs t a part parts is settled = merged_again S a n R Rs t part parts is settled
