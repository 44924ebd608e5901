use Rattle.import_laws.proofs.Sources.{tables_agree}
use Rattle.import_laws.proofs.laws.tables_agree.Goals as goal

pub returns : goal.returns
returns c = tables_agree
