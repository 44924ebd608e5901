use Rattle.import_laws.proofs.Kept.{nothing_is_lost}
use Rattle.import_laws.proofs.laws.nothing_is_lost.Goals as goal

pub returns : goal.returns
returns c = nothing_is_lost
