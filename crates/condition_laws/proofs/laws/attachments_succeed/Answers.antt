use Rattle.condition_laws.proofs.Succeeds.{attach_succeeds, detach_succeeds}
use Rattle.condition_laws.proofs.laws.attachments_succeed.Goals as goal

pub returns-clause-attach : goal.returns-clause-attach
returns-clause-attach c = attach_succeeds

pub returns-clause-detach : goal.returns-clause-detach
returns-clause-detach c = detach_succeeds
