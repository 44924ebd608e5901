use Rattle.law_examples.proofs.PlainCopies.{merging_is_a_history}
use Rattle.law_examples.proofs.laws.merging_is_a_history.Goals as goal

pub returns : goal.returns
returns c = merging_is_a_history
