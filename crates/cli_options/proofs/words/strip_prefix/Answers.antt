use Rattle.std.proofs.Common.{◌++◌, ◌∙◌, ap, sym}
use Rattle.cli_options.proofs.PrefixCases.{by_cases}
use Rattle.cli_options.proofs.words.strip_prefix.Goals as goal

pub returns : goal.returns
returns c =
    by_cases c.args.prefix.now c.args.word.now c.strip_prefix.result _ _ c.strip_prefix.ensures.cases
    (λ h. h) (λ x q. q.1.1 ∙ ap (λ r. c.args.prefix.now ++ r) (sym q.2))
