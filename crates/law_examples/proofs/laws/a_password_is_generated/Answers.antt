use Rattle.law_examples.proofs.Calls.{example_password}
use Rattle.law_examples.proofs.laws.a_password_is_generated.Goals as goal

pub returns : goal.returns
returns c = example_password
