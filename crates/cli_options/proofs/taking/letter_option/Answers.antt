use Rattle.std.proofs.Common.{◌<◌, ◌∙◌, sym, subst}
use Rattle.std.specs.Prelude.{IfSome}
use Rattle.cli_options.proofs.Letters.{found_low}
use Rattle.cli_options.proofs.taking.letter_option.Goals as goal

pub returns-in-Some-clause-ascii : goal.returns-in-Some-clause-ascii
returns-in-Some-clause-ascii c =
    subst (λ found. IfSome found (λ option. c.args.letter < 128)) (sym c.with_letter.ensures ∙ c.in-Some.is)
    (found_low c.args.letter c.own_options.result.now)

pub returns-in-None-clause-ascii : goal.returns-in-None-clause-ascii
returns-in-None-clause-ascii c =
    subst (λ found. IfSome found (λ option. c.args.letter < 128)) (sym c.with_letter-in-None.ensures)
    (found_low c.args.letter c.shared_options.result.now)
