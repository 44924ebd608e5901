use Rattle.std.proofs.Common.{◌∙◌, ap, map, Some, slice_set}
use Rattle.cli_options.specs.SaidWords.{text_seen}
use Rattle.cli_options.proofs.Texts.{text_put}
use Rattle.cli_options.proofs.said.with_text.Goals as goal

pub returns : goal.returns
returns c =
    text_put c.args.given c.place_of.result (Some c.args.text)
    ∙ ap (λ n. slice_set (map text_seen c.args.given) n (Some c.args.text.now)) c.place_of.ensures.is
