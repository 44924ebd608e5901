use Rattle.std.proofs.Common.{None, sym, ap, ◌∙◌, arith}
use Rattle.std.proofs.lemmas.Str.Pattern.{strip_prefix_char}
use Rattle.find_references.proofs.TermParts.{unquoted}
use Rattle.find_references.proofs.parsing.text_before.Goals as goal

pub returns-in-None-clause-text : goal.returns-in-None-clause-text
returns-in-None-clause-text c =
    c.cut_at_space.ensures.text
    ∙ ap (λ cut. cut.text) (sym (unquoted c.args.text.now (strip_prefix_char 34 c.args.text.now None c.in-None.ensures.cases (omega arith))))

pub returns-in-None-clause-following : goal.returns-in-None-clause-following
returns-in-None-clause-following c =
    c.cut_at_space.ensures.following
    ∙ ap (λ cut. cut.following) (sym (unquoted c.args.text.now (strip_prefix_char 34 c.args.text.now None c.in-None.ensures.cases (omega arith))))
