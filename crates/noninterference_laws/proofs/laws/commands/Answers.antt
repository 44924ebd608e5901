use Rattle.noninterference_laws.proofs.BlindCommands.{commands_are_blind, draws_are_blind}
use Rattle.noninterference_laws.proofs.BlindShow.{show_is_blind}
use Rattle.noninterference_laws.proofs.laws.commands.Goals as goal

pub returns-clause-same : goal.returns-clause-same
returns-clause-same c = commands_are_blind

pub returns-clause-draws : goal.returns-clause-draws
returns-clause-draws c = draws_are_blind

pub returns-clause-show : goal.returns-clause-show
returns-clause-show c = show_is_blind
