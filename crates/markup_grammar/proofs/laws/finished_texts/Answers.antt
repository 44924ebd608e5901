use Rattle.markup_grammar.proofs.Limit.{finished_texts}
use Rattle.markup_grammar.proofs.laws.finished_texts.Goals as goal

pub returns : goal.returns
returns c = finished_texts
