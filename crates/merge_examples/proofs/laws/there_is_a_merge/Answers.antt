use Rattle.merge_examples.proofs.Merged.{example_is_merged}
use Rattle.merge_examples.proofs.laws.there_is_a_merge.Goals as goal

pub returns : goal.returns
returns c = example_is_merged
