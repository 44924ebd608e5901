use Rattle.import_again_laws.proofs.Replacing.{safes_replace}
use Rattle.import_again_laws.proofs.laws.safes_replace.Goals as goal

pub returns : goal.returns
returns c = safes_replace
