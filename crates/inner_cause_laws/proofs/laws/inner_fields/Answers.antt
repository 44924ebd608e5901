use Rattle.inner_cause_laws.proofs.InnerRefusals.{inner_refusals}
use Rattle.inner_cause_laws.proofs.laws.inner_fields.Goals as goal

pub returns : goal.returns
returns c = inner_refusals
