use Rattle.std.proofs.Common.{ap, sym, ◌∙◌, not}
use Rattle.text_core.proofs.Literals.{literal_tests}
use Rattle.text_core.proofs.escapes.is_literal.Goals as goal

pub returns-then-not-contains : goal.returns-then-not-contains
returns-then-not-contains c = ap not c.contains-then-not-contains.ensures.value ∙ literal_tests c.args.raw.now (sym c.contains.ensures.value ∙ c.if-not-contains.true)
