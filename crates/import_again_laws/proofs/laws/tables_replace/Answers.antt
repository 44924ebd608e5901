use Rattle.import_again_laws.proofs.Replacing.{tables_replace}
use Rattle.import_again_laws.proofs.laws.tables_replace.Goals as goal

pub returns : goal.returns
returns c = tables_replace
