use Rattle.outside_host.proofs.Answers.{fill_told}
use Rattle.outside_host.proofs.host.HostDiceDice.fill.Goals as goal

pub returns-clause-ok : goal.returns-clause-ok
returns-clause-ok g c = fill_told _ _ _ _ _ _ c.answer_fill.ensures.truthful c.answer_fill.ensures.left
