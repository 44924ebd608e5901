use Rattle.markup_grammar.proofs.Made.{made}
use Rattle.markup_grammar.proofs.laws.parts_of_pieces.Goals as goal

pub returns : goal.returns
returns c = made
