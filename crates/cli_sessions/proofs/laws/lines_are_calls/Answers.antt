-- Lines as calls.
use Rattle.cli_sessions.proofs.Calls.{line_is_call}
use Rattle.cli_sessions.proofs.laws.lines_are_calls.Goals as goal

pub returns : goal.returns
returns c = line_is_call
