use Rattle.std.proofs.Common.{◌∙◌, refl, []}
use Rattle.std.proofs.lemmas.Result.{err_from_is_err_and}
use Rattle.markup_grammar.specs.Machine.{fresh, between, before, opened}
use Rattle.markup_scanner.proofs.Asides.{past_on}
use Rattle.markup_scanner.proofs.Tokens.{opened_root, rootless, tag_told}
use Rattle.markup_scanner.proofs.token.first_token.Goals as goal

pub returns-in_err-name-clause-token : goal.returns-in_err-name-clause-token
returns-in_err-name-clause-token c =
    let p = err_from_is_err_and c.from_residual-in_err-name.result c.from_residual-in_err-name.ensures.1 in
    rw (p.1, p.2)
    (c.in_ok-begin.ensures.mark
    ∙ (c.in_ok-place.ensures.asides before tt
    ∙ rootless c.args.text.now c.in_ok-place.place c.in_err-name.field-0.0 c.in_ok-place.ensures.no_space c.in_err-name.ensures.byte))

pub returns-in_err-tag-clause-token : goal.returns-in_err-tag-clause-token
returns-in_err-tag-clause-token c =
    let p = err_from_is_err_and c.from_residual-in_err-tag.result c.from_residual-in_err-tag.ensures.1 in
    rw (p.1, p.2)
    (c.in_ok-begin.ensures.mark
    ∙ (c.in_ok-place.ensures.asides before tt
    ∙ (past_on c.args.text.now (between before) (opened c.in_ok-place.place before) c.in_ok-place.place c.in_ok-name.name 60 refl c.in_ok-name.ensures.byte
    ∙ c.in_err-tag.ensures.tag (opened c.in_ok-place.place before) c.in_ok-place.place []
    (opened_root c.args.text.now c.in_ok-place.place c.in_ok-name.name c.in_ok-name.ensures.byte c.in_ok-place.ensures.all))))

pub returns-clause-token : goal.returns-clause-token
returns-clause-token c =
    tag_told c.args.text.now fresh (opened c.in_ok-place.place before) [] 0 c.in_ok-place.place c.in_ok-name.name c.in_ok-tag.tag
    (c.in_ok-begin.ensures.mark
    ∙ (c.in_ok-place.ensures.asides before tt
    ∙ past_on c.args.text.now (between before) (opened c.in_ok-place.place before) c.in_ok-place.place c.in_ok-name.name 60 refl c.in_ok-name.ensures.byte))
    c.in_ok-name.ensures.byte.0
    (c.in_ok-tag.ensures.tag (opened c.in_ok-place.place before) c.in_ok-place.place []
    (opened_root c.args.text.now c.in_ok-place.place c.in_ok-name.name c.in_ok-name.ensures.byte c.in_ok-place.ensures.all))
