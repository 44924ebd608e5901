use Rattle.law_examples.proofs.Commands.{example_commands}
use Rattle.law_examples.proofs.laws.commands_meet_their_conditions.Goals as goal

pub returns : goal.returns
returns c = example_commands
