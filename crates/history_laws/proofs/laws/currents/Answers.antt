use Rattle.history_laws.proofs.CurrentAgreed.{agreed_alike}
use Rattle.history_laws.proofs.CurrentJoin.{view_twice, currents_join}
use Rattle.history_laws.proofs.laws.currents.Goals as goal

pub returns-clause-join : goal.returns-clause-join
returns-clause-join c = currents_join

pub returns-clause-twice : goal.returns-clause-twice
returns-clause-twice c = view_twice

pub returns-clause-agreement : goal.returns-clause-agreement
returns-clause-agreement c = agreed_alike
