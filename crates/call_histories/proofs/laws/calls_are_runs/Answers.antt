use Rattle.call_histories.proofs.Runs.{calls_are_runs}
use Rattle.call_histories.proofs.laws.calls_are_runs.Goals as goal

pub returns : goal.returns
returns c = calls_are_runs
