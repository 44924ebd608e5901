use Rattle.resealing_laws.proofs.Salts.{sealed_alike}
use Rattle.resealing_laws.proofs.laws.old_salts_are_not_seen.Goals as goal

pub returns : goal.returns
returns c = sealed_alike
