-- Lines over their sessions' databases.
use Rattle.cli_sessions.proofs.OfSession.{of_session}
use Rattle.cli_sessions.proofs.laws.lines_are_of_their_session.Goals as goal

pub returns : goal.returns
returns c = of_session
