use Rattle.session_laws.proofs.Sessions.{are_their_lines}
use Rattle.session_laws.proofs.laws.sessions_are_their_lines.Goals as goal

pub returns : goal.returns
returns c = are_their_lines
