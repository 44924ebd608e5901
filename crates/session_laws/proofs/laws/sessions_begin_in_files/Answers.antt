use Rattle.session_laws.proofs.Beginning.{begins}
use Rattle.session_laws.proofs.laws.sessions_begin_in_files.Goals as goal

pub returns : goal.returns
returns c = begins
