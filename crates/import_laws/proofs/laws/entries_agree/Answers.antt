use Rattle.import_laws.proofs.Sources.{entries_agree}
use Rattle.import_laws.proofs.laws.entries_agree.Goals as goal

pub returns : goal.returns
returns c = entries_agree
