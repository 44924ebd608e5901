use Rattle.markup_grammar.proofs.ElementsTold.{elements_told}
use Rattle.markup_grammar.proofs.meaning_laws.elements_of_texts.Goals as goal

pub returns : goal.returns
returns c = elements_told
