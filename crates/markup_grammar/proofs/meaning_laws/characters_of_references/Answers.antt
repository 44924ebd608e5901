use Rattle.markup_grammar.proofs.CharacterTold.{character_told}
use Rattle.markup_grammar.proofs.meaning_laws.characters_of_references.Goals as goal

pub returns : goal.returns
returns c = character_told
