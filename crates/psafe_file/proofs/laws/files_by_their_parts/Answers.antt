use Rattle.psafe_file.proofs.SafeForms.{divided, read}
use Rattle.psafe_file.proofs.laws.files_by_their_parts.Goals as goal

pub returns-clause-divided : goal.returns-clause-divided
returns-clause-divided c = divided

pub returns-clause-read : goal.returns-clause-read
returns-clause-read c = read
