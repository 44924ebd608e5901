-- The copies agree, and fit the levels.
use Rattle.merge_twins.proofs.Agreement.{twins_agree, twins_fit}
use Rattle.merge_twins.proofs.laws.agreed.Goals as goal

pub returns-clause-agree : goal.returns-clause-agree
returns-clause-agree c count few = twins_agree count few

pub returns-clause-fit : goal.returns-clause-fit
returns-clause-fit c count few = twins_fit count few
