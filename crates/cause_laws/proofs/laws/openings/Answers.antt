use Rattle.cause_laws.proofs.Refusals.{refusals_have_causes}
use Rattle.cause_laws.proofs.laws.openings.Goals as goal

pub returns : goal.returns
returns c = refusals_have_causes
