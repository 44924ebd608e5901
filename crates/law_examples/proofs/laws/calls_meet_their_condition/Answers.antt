use Rattle.law_examples.proofs.Calls.{example_calls}
use Rattle.law_examples.proofs.laws.calls_meet_their_condition.Goals as goal

pub returns : goal.returns
returns c = example_calls
