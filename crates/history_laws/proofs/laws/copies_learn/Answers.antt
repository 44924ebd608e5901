use Rattle.history_laws.proofs.Mistakes.{forgetful_copies_fail}
use Rattle.history_laws.proofs.laws.copies_learn.Goals as goal

pub returns : goal.returns
returns c = forgetful_copies_fail
