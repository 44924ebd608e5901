use Rattle.merge_examples.proofs.Merged.{example_runs}
use Rattle.merge_examples.proofs.laws.there_is_a_run.Goals as goal

pub returns : goal.returns
returns c = example_runs
