use Rattle.markup_grammar.proofs.Utf8Fronts.{utf8_fronts}
use Rattle.markup_grammar.proofs.utf8_laws.utf8_fronts.Goals as goal

pub returns : goal.returns
returns c = utf8_fronts
