use Rattle.psafe_file.proofs.Openings.{opened, given}
use Rattle.psafe_file.proofs.laws.opened_files.Goals as goal

pub returns-clause-opened : goal.returns-clause-opened
returns-clause-opened c = opened

pub returns-clause-given : goal.returns-clause-given
returns-clause-given c = given
