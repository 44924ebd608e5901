use Rattle.import_laws.proofs.Sources.{safes_agree}
use Rattle.import_laws.proofs.laws.safes_agree.Goals as goal

pub returns : goal.returns
returns c = safes_agree
