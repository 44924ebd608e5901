use Rattle.law_examples.proofs.Histories.{example_history}
use Rattle.law_examples.proofs.laws.a_call_begins_a_history.Goals as goal

pub returns : goal.returns
returns c = example_history
