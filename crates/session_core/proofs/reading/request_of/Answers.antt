use Rattle.std.proofs.Common.{subst}
use Rattle.session_core.specs.SeenReading.{Fits}
use Rattle.session_core.proofs.reading.request_of.Goals as goal

pub returns-in-Commands-clause-asked : goal.returns-in-Commands-clause-asked
returns-in-Commands-clause-asked g c = λ database fits. c.ask.ensures.asked database (subst (Fits database) c.in-Commands.is fits)
