use Rattle.std.proofs.Common.{◌∙◌, refl}
use Rattle.std.proofs.lemmas.Result.{err_from_is_err_and}
use Rattle.markup_grammar.specs.Machine.{bang, bang_dash, between, in_comment, no_dash}
use Rattle.markup_scanner.proofs.Asides.{past_on, past_off}
use Rattle.markup_scanner.proofs.References.{leads_after}
use Rattle.markup_scanner.proofs.aside.comment_end.Goals as goal

pub returns-in_err-dash-clause-comment : goal.returns-in_err-dash-clause-comment
returns-in_err-dash-clause-comment c =
    let p = err_from_is_err_and c.from_residual.result c.from_residual.ensures.1 in
    λ level. rw (p.1, p.2)
    (past_off c.args.text.now (bang level) c.args.at c.in_err-dash.field-0.0 45 refl (λ b other. rw other refl) c.in_err-dash.ensures.byte)

pub returns-in_err-inner-clause-comment : goal.returns-in_err-inner-clause-comment
returns-in_err-inner-clause-comment c =
    let p = err_from_is_err_and c.from_residual-in_err-inner.result c.from_residual-in_err-inner.ensures.1 in
    λ level. rw (p.1, p.2)
    (past_on c.args.text.now (bang level) (bang_dash level) c.args.at c.in_ok-dash.dash 45 refl c.in_ok-dash.ensures.byte
    ∙ past_off c.args.text.now (bang_dash level) c.in_ok-dash.dash c.in_err-inner.field-0.0 45 refl (λ b other. rw other refl) c.in_err-inner.ensures.byte)

pub returns-clause-comment : goal.returns-clause-comment
returns-clause-comment c =
    λ level. leads_after c.args.text.now (bang level) (in_comment no_dash level) c.args.at c.in_ok-inner.inner (λ end. between level) c.comment_rest_end.result
    (past_on c.args.text.now (bang level) (bang_dash level) c.args.at c.in_ok-dash.dash 45 refl c.in_ok-dash.ensures.byte
    ∙ past_on c.args.text.now (bang_dash level) (in_comment no_dash level) c.in_ok-dash.dash c.in_ok-inner.inner 45 refl c.in_ok-inner.ensures.byte)
    (c.comment_rest_end.ensures.comment level)
