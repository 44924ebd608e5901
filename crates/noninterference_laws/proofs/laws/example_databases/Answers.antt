use Rattle.noninterference_laws.proofs.Examples.{example_databases}
use Rattle.noninterference_laws.proofs.laws.example_databases.Goals as goal

pub returns : goal.returns
returns c = example_databases
