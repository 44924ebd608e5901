use Rattle.std.proofs.Common.{◌++◌, ◌∙◌, ap, codes, sym}
use Rattle.cli_options.proofs.PrefixCases.{by_cases}
use Rattle.cli_causes.proofs.causes.after_hyphens.Goals as goal

pub returns : goal.returns
returns c =
    by_cases (codes "--") c.args.word.now c.strip_prefix.result _ _ c.strip_prefix.ensures.cases
    (λ h. h) (λ x q. q.1.1 ∙ ap (λ r. codes "--" ++ r) (sym q.2))
