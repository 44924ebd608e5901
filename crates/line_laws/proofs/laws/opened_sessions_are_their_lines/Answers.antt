use Rattle.line_laws.proofs.OpenedSessions.{opened_sessions}
use Rattle.line_laws.proofs.laws.opened_sessions_are_their_lines.Goals as goal

pub returns : goal.returns
returns c = opened_sessions
