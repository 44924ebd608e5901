use Rattle.std.proofs.Common.{Some, None, arith, ap, sym, ◌∙◌}
use Rattle.std.specs.Prelude.{is_some}
use Rattle.std.proofs.lemmas.Str.Pattern.{split_parts}
use Rattle.cli_options.specs.Prefixes.{after_sign, before_sign}
use Rattle.cli_options.proofs.Texts.{after_first_sign, after_no_sign, before_first_sign, before_no_sign}
use Rattle.cli_causes.proofs.causes.split_at_sign.Goals as goal

pub returns-in-Some-clause-before : goal.returns-in-Some-clause-before
returns-in-Some-clause-before c =
    let parts = split_parts 61 c.args.text.now (Some (c.in-Some.name, c.in-Some._value)) c.in-Some.ensures.cases (omega arith) in
    sym (ap before_sign parts.0 ∙ before_first_sign c.in-Some.name.now c.in-Some._value.now parts.1)

pub returns-in-Some-clause-after : goal.returns-in-Some-clause-after
returns-in-Some-clause-after c =
    let parts = split_parts 61 c.args.text.now (Some (c.in-Some.name, c.in-Some._value)) c.in-Some.ensures.cases (omega arith) in
    sym (ap (λ t. is_some (after_sign t)) parts.0 ∙ ap is_some (after_first_sign c.in-Some.name.now c.in-Some._value.now parts.1))

pub returns-in-None-clause-before : goal.returns-in-None-clause-before
returns-in-None-clause-before c =
    sym (before_no_sign c.args.text.now (split_parts 61 c.args.text.now None c.in-None.ensures.cases (omega arith)))

pub returns-in-None-clause-after : goal.returns-in-None-clause-after
returns-in-None-clause-after c =
    sym (ap is_some (after_no_sign c.args.text.now (split_parts 61 c.args.text.now None c.in-None.ensures.cases (omega arith))))
