use Rattle.session_laws.proofs.Sessions.{own_file}
use Rattle.session_laws.proofs.laws.lines_write_their_own_file.Goals as goal

pub returns : goal.returns
returns c = own_file
