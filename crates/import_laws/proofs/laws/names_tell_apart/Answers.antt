use Rattle.import_laws.proofs.Counted.{names_tell_apart}
use Rattle.import_laws.proofs.laws.names_tell_apart.Goals as goal

pub returns : goal.returns
returns c = names_tell_apart
