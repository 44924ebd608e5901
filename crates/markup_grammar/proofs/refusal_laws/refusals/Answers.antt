use Rattle.markup_grammar.proofs.Refusals.{refusals}
use Rattle.markup_grammar.proofs.refusal_laws.refusals.Goals as goal

pub returns : goal.returns
returns c = refusals
