use Rattle.completeness_laws.proofs.Suffices.{commands_succeed, conditions_suffice}
use Rattle.completeness_laws.proofs.laws.what_can_be_carried_out_is.Goals as goal

pub returns-clause-command : goal.returns-clause-command
returns-clause-command c = commands_succeed

pub returns-clause-call : goal.returns-clause-call
returns-clause-call c = conditions_suffice
