use Rattle.call_histories.proofs.Runs.{copies_join, copies_same}
use Rattle.call_histories.proofs.laws.copies_agree.Goals as goal

pub returns-clause-join : goal.returns-clause-join
returns-clause-join c = copies_join

pub returns-clause-same : goal.returns-clause-same
returns-clause-same c = copies_same
