use Rattle.session_examples.proofs.Sessions.{is_session}
use Rattle.session_examples.proofs.laws.a_session_is_its_lines.Goals as goal

pub returns : goal.returns
returns c = is_session
