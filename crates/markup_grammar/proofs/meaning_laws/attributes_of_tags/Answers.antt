use Rattle.markup_grammar.proofs.TagMeanings.{attributes_told}
use Rattle.markup_grammar.proofs.meaning_laws.attributes_of_tags.Goals as goal

pub returns : goal.returns
returns c = attributes_told
