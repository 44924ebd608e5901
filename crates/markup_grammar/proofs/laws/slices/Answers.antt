use Rattle.markup_grammar.proofs.Rise.{rising_places}
use Rattle.markup_grammar.proofs.Stand.{slices}
use Rattle.markup_grammar.proofs.laws.slices.Goals as goal

pub returns : goal.returns
returns c = record { parts = slices; rising = rising_places }
