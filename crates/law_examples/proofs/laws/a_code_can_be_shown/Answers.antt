use Rattle.law_examples.proofs.Commands.{example_code}
use Rattle.law_examples.proofs.laws.a_code_can_be_shown.Goals as goal

pub returns : goal.returns
returns c = example_code
