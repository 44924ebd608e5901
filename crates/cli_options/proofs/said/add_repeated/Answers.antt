use Rattle.std.proofs.Common.{◌∙◌, ap, sym, Some}
use Rattle.cli_options.specs.Said.{with_repeated}
use Rattle.cli_options.specs.SaidWords.{texts_among}
use Rattle.cli_options.proofs.Repeated.{text_after}
use Rattle.cli_options.proofs.said.add_repeated.Goals as goal

pub returns-in-Ok : goal.returns-in-Ok
returns-in-Ok c =
    ap (λ texts. Some texts)
    (ap (λ text. with_repeated (texts_among c.args.repeated.now) c.args.option text) (sym c.in_ok-text.ensures)
    ∙ text_after c.args.repeated.now (record { option = c.args.option; text = c.in_ok-text.text })
    ∙ ap texts_among (sym c.in-Ok.ensures.ok))
