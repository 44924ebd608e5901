use Rattle.std.proofs.Common.{◌∙◌, refl, ◌∷◌}
use Rattle.std.proofs.lemmas.Result.{err_from_is_err_and}
use Rattle.markup_grammar.specs.Machine.{between, within, opened, closing}
use Rattle.markup_scanner.proofs.Asides.{past_on, opened_on}
use Rattle.markup_scanner.proofs.Tokens.{opened_child, tag_told, words_told}
use Rattle.markup_scanner.proofs.token.inner_token.Goals as goal

pub returns-in_default-clause-token : goal.returns-in_default-clause-token
returns-in_default-clause-token c =
    λ names. words_told c.args.text.now c.args.name.now names c.args.at c.in_ok-place.place c.in_ok-end.end
    (c.in_ok-place.ensures.asides (within c.args.name.now names) ∙ c.in_ok-end.ensures.words c.args.name.now names)
    c.in_ok-end.ensures.ends

pub returns-in_err-end-2-clause-token : goal.returns-in_err-end-2-clause-token
returns-in_err-end-2-clause-token c =
    let p = err_from_is_err_and c.from_residual-in_err-end-2.result c.from_residual-in_err-end-2.ensures.1 in
    λ names. rw (p.1, p.2)
    (c.in_ok-place.ensures.asides (within c.args.name.now names)
    ∙ (opened_on c.args.text.now (within c.args.name.now names) (closing c.in_ok-place.place c.args.name.now names) c.in_ok-place.place c.in-Ok.opened c.in-Ok-past.closing 47 refl c.in-Ok.ensures.byte c.in-Ok-past.ensures.byte
    ∙ c.in_err-end-2.ensures.tag c.in_ok-place.place names))

pub returns-in-Ok-past-clause-token : goal.returns-in-Ok-past-clause-token
returns-in-Ok-past-clause-token c =
    λ names. c.in_ok-place.ensures.asides (within c.args.name.now names)
    ∙ (opened_on c.args.text.now (within c.args.name.now names) (closing c.in_ok-place.place c.args.name.now names) c.in_ok-place.place c.in-Ok.opened c.in-Ok-past.closing 47 refl c.in-Ok.ensures.byte c.in-Ok-past.ensures.byte
    ∙ c.in_ok-end-2.ensures.tag c.in_ok-place.place names)

pub returns-in_err-tag-clause-token : goal.returns-in_err-tag-clause-token
returns-in_err-tag-clause-token c =
    let p = err_from_is_err_and c.from_residual-in_err-tag.result c.from_residual-in_err-tag.ensures.1 in
    λ names. rw (p.1, p.2)
    (c.in_ok-place.ensures.asides (within c.args.name.now names)
    ∙ (past_on c.args.text.now (between (within c.args.name.now names)) (opened c.in_ok-place.place (within c.args.name.now names)) c.in_ok-place.place c.in-Ok.opened 60 refl c.in-Ok.ensures.byte
    ∙ c.in_err-tag.ensures.tag (opened c.in_ok-place.place (within c.args.name.now names)) c.in_ok-place.place (c.args.name.now ∷ names)
    (opened_child c.args.text.now c.in_ok-place.place c.args.name.now names c.in-Ok.opened c.in-Ok.ensures.byte c.in_ok-place.ensures.all c.in_default-past.ensures.byte.1)))

pub returns-clause-token : goal.returns-clause-token
returns-clause-token c =
    λ names. tag_told c.args.text.now (between (within c.args.name.now names)) (opened c.in_ok-place.place (within c.args.name.now names)) (c.args.name.now ∷ names) c.args.at c.in_ok-place.place c.in-Ok.opened c.in_ok-tag.tag
    (c.in_ok-place.ensures.asides (within c.args.name.now names)
    ∙ past_on c.args.text.now (between (within c.args.name.now names)) (opened c.in_ok-place.place (within c.args.name.now names)) c.in_ok-place.place c.in-Ok.opened 60 refl c.in-Ok.ensures.byte)
    c.in-Ok.ensures.byte.0
    (c.in_ok-tag.ensures.tag (opened c.in_ok-place.place (within c.args.name.now names)) c.in_ok-place.place (c.args.name.now ∷ names)
    (opened_child c.args.text.now c.in_ok-place.place c.args.name.now names c.in-Ok.opened c.in-Ok.ensures.byte c.in_ok-place.ensures.all c.in_default-past.ensures.byte.1))
