use Rattle.generation_laws.proofs.Example.{example_dice}
use Rattle.generation_laws.proofs.laws.example_dice.Goals as goal

pub returns : goal.returns
returns c = example_dice
