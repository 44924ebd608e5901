use Rattle.condition_laws.proofs.Examples.{example_conditions}
use Rattle.condition_laws.proofs.laws.example_conditions.Goals as goal

pub returns : goal.returns
returns c = example_conditions
