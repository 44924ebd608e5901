use Rattle.randomness_laws.proofs.Example.{example_draws}
use Rattle.randomness_laws.proofs.laws.example_draws.Goals as goal

pub returns : goal.returns
returns c = example_draws
