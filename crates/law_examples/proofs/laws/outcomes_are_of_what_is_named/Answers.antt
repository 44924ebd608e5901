use Rattle.law_examples.proofs.Calls.{example_outcomes}
use Rattle.law_examples.proofs.laws.outcomes_are_of_what_is_named.Goals as goal

pub returns : goal.returns
returns c = example_outcomes
