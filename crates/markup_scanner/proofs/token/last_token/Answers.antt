use Rattle.std.proofs.Common.{◌∙◌}
use Rattle.markup_grammar.specs.Machine.{behind}
use Rattle.markup_scanner.proofs.Tokens.{end_told, second_root, text_behind}
use Rattle.markup_scanner.proofs.token.last_token.Goals as goal

pub returns-then-place-text-clause-token : goal.returns-then-place-text-clause-token
returns-then-place-text-clause-token c =
    c.in_ok-place.ensures.asides behind tt ∙ end_told c.args.text.now c.in_ok-place.place c.if-place-text.true

pub returns-in-Ok-clause-token : goal.returns-in-Ok-clause-token
returns-in-Ok-clause-token c =
    c.in_ok-place.ensures.asides behind tt
    ∙ second_root c.args.text.now c.in_ok-place.place c.in-Ok.opened c.in-Ok.ensures.byte c.in_ok-place.ensures.all

pub returns-in-Err-clause-token : goal.returns-in-Err-clause-token
returns-in-Err-clause-token c =
    c.in_ok-place.ensures.asides behind tt
    ∙ text_behind c.args.text.now c.in_ok-place.place c.in-Err.place c.in_ok-place.ensures.within.1 c.if-place-text.false c.in_ok-place.ensures.no_space c.in-Err.ensures.byte
