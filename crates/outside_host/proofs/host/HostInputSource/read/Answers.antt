use Rattle.outside_host.proofs.Answers.{read_told}
use Rattle.outside_host.proofs.host.HostInputSource.read.Goals as goal

pub returns-clause-told : goal.returns-clause-told
returns-clause-told g c = read_told _ _ _ _ _ _ c.answer_read.ensures.bound c.answer_read.ensures.truthful c.answer_read.ensures.left
