use Rattle.call_histories.proofs.GoOn.{merges_go_on}
use Rattle.call_histories.proofs.Runs.{merges_join}
use Rattle.call_histories.proofs.laws.merges_agree.Goals as goal

pub returns-clause-join : goal.returns-clause-join
returns-clause-join c = merges_join

pub returns-clause-go_on : goal.returns-clause-go_on
returns-clause-go_on c = merges_go_on
