use Rattle.markup_grammar.proofs.Limit.{whole_texts}
use Rattle.markup_grammar.proofs.laws.whole_texts.Goals as goal

pub returns : goal.returns
returns c = whole_texts
