use Rattle.std.proofs.Common.{refl, false}
use Rattle.markup_grammar.specs.Machine.{between, bang, in_instruction}
use Rattle.markup_scanner.proofs.Asides.{opened_on, no_tag, other_tag, ends_closed, ends_later}
use Rattle.markup_scanner.proofs.References.{leads_after}
use Rattle.markup_scanner.proofs.aside.aside_end.Goals as goal

pub returns-in-Ok-past-clause-aside : goal.returns-in-Ok-past-clause-aside
returns-in-Ok-past-clause-aside c =
    λ level. leads_after c.args.text.now (between level) (bang level) c.args.at c.in-Ok-past.inner (λ end. between level) c.comment_end.result
    (opened_on c.args.text.now level (bang level) c.args.at c.in-Ok.tag c.in-Ok-past.inner 33 refl c.in-Ok.ensures.byte c.in-Ok-past.ensures.byte)
    (c.comment_end.ensures.comment level)

pub returns-in-Ok-past-clause-closes : goal.returns-in-Ok-past-clause-closes
returns-in-Ok-past-clause-closes c = ends_closed c.args.text.now c.args.at c.comment_end.result c.comment_end.ensures.closes

pub returns-in-Ok-past-clause-none : goal.returns-in-Ok-past-clause-none
returns-in-Ok-past-clause-none c =
    ends_later c.args.text.now c.args.at c.in-Ok.tag c.in-Ok-past.inner c.comment_end.result c.in-Ok.ensures.byte.0 c.in-Ok-past.ensures.byte.0 c.comment_end.ensures.within

pub returns-in-Ok-past-2-clause-aside : goal.returns-in-Ok-past-2-clause-aside
returns-in-Ok-past-2-clause-aside c =
    λ level. leads_after c.args.text.now (between level) (in_instruction false level) c.args.at c.in-Ok-past-2.inner (λ end. between level) c.instruction_end.result
    (opened_on c.args.text.now level (in_instruction false level) c.args.at c.in-Ok.tag c.in-Ok-past-2.inner 63 refl c.in-Ok.ensures.byte c.in-Ok-past-2.ensures.byte)
    (c.instruction_end.ensures.instruction level)

pub returns-in-Ok-past-2-clause-closes : goal.returns-in-Ok-past-2-clause-closes
returns-in-Ok-past-2-clause-closes c = ends_closed c.args.text.now c.args.at c.instruction_end.result c.instruction_end.ensures.closes

pub returns-in-Ok-past-2-clause-none : goal.returns-in-Ok-past-2-clause-none
returns-in-Ok-past-2-clause-none c =
    ends_later c.args.text.now c.args.at c.in-Ok.tag c.in-Ok-past-2.inner c.instruction_end.result c.in-Ok.ensures.byte.0 c.in-Ok-past-2.ensures.byte.0 c.instruction_end.ensures.within

pub returns-in_default-clause-none : goal.returns-in_default-clause-none
returns-in_default-clause-none c = λ same. no_tag c.args.text.now c.args.at c.in_default.ensures.byte.1

pub returns-in_default-past-2-clause-none : goal.returns-in_default-past-2-clause-none
returns-in_default-past-2-clause-none c =
    λ same. other_tag c.args.text.now c.args.at c.in-Ok.tag c.in-Ok.ensures.byte.0 c.in_default-past.ensures.byte.1 c.in_default-past-2.ensures.byte.1
