use Rattle.merge_examples.proofs.Settled.{there_is_a_settled_one}
use Rattle.merge_examples.proofs.laws.there_is_a_settled_document.Goals as goal

pub returns : goal.returns
returns c = there_is_a_settled_one
