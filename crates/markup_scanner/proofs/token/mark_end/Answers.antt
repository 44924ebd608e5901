use Rattle.std.proofs.Common.{◌∙◌, refl}
use Rattle.std.proofs.lemmas.Result.{err_from_is_err_and}
use Rattle.markup_grammar.specs.Machine.{fresh, mark_one, mark_two, between, before}
use Rattle.markup_scanner.proofs.Asides.{past_on, past_off}
use Rattle.markup_scanner.proofs.References.{leads_after}
use Rattle.markup_scanner.proofs.Tokens.{past_leads, unmarked}
use Rattle.markup_scanner.proofs.token.mark_end.Goals as goal

pub returns-in_default-clause-mark : goal.returns-in_default-clause-mark
returns-in_default-clause-mark c = unmarked c.args.text.now c.in_default.ensures.byte.1

pub returns-in_err-third-clause-mark : goal.returns-in_err-third-clause-mark
returns-in_err-third-clause-mark c =
    let p = err_from_is_err_and c.from_residual.result c.from_residual.ensures.1 in
    rw (p.1, p.2)
    (past_on c.args.text.now fresh mark_one 0 c.in-Ok.second 239 refl c.in-Ok.ensures.byte
    ∙ past_off c.args.text.now mark_one c.in-Ok.second c.in_err-third.field-0.0 187 refl (λ b other. rw other refl) c.in_err-third.ensures.byte)

pub returns-clause-mark : goal.returns-clause-mark
returns-clause-mark c =
    leads_after c.args.text.now fresh mark_two 0 c.in_ok-third.third (λ end. between before) c.past-3.result
    (past_on c.args.text.now fresh mark_one 0 c.in-Ok.second 239 refl c.in-Ok.ensures.byte
    ∙ past_on c.args.text.now mark_one mark_two c.in-Ok.second c.in_ok-third.third 187 refl c.in_ok-third.ensures.byte)
    (past_leads c.args.text.now mark_two (between before) c.in_ok-third.third 191 c.past-3.result refl refl (λ b other. rw other refl) c.past-3.ensures.byte)
