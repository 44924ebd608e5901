use Rattle.cause_laws.proofs.Examples.{example_refusal}
use Rattle.cause_laws.proofs.laws.example_refusal.Goals as goal

pub returns : goal.returns
returns c = example_refusal
