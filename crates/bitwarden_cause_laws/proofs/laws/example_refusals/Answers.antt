use Rattle.bitwarden_cause_laws.proofs.Examples.{example_refusals}
use Rattle.bitwarden_cause_laws.proofs.laws.example_refusals.Goals as goal

pub returns : goal.returns
returns c = example_refusals
