use Rattle.markup_grammar.proofs.Verdicts.{verdicts}
use Rattle.markup_grammar.proofs.laws.one_verdict.Goals as goal

pub returns : goal.returns
returns c = verdicts
