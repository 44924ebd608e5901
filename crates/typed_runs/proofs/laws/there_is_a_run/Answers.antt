use Rattle.typed_runs.proofs.ExampleRun.{example_is_run}
use Rattle.typed_runs.proofs.laws.there_is_a_run.Goals as goal

pub returns : goal.returns
returns c = example_is_run
