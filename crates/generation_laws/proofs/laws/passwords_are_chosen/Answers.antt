use Rattle.generation_laws.proofs.Choosing.{passwords_are_chosen}
use Rattle.generation_laws.proofs.laws.passwords_are_chosen.Goals as goal

pub returns : goal.returns
returns c = passwords_are_chosen
