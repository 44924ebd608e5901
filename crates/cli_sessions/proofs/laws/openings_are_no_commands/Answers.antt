-- Words that open sessions.
use Rattle.cli_sessions.proofs.Opened.{opening_no_command, opening_not_standalone}
use Rattle.cli_sessions.proofs.laws.openings_are_no_commands.Goals as goal

pub returns-clause-command : goal.returns-clause-command
returns-clause-command c = opening_no_command

pub returns-clause-standalone : goal.returns-clause-standalone
returns-clause-standalone c = opening_not_standalone
