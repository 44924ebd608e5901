use Rattle.markup_grammar.proofs.CutsTold.{cuts_told}
use Rattle.markup_grammar.proofs.meaning_laws.cuts_of_texts.Goals as goal

pub returns : goal.returns
returns c = cuts_told
