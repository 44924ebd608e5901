use Rattle.std.proofs.Common.{◌∙◌, ap, map, None, slice_index_or}
use Rattle.cli_options.specs.SaidWords.{text_seen}
use Rattle.cli_options.proofs.Texts.{text_at}
use Rattle.cli_options.proofs.said.text_in.Goals as goal

pub returns : goal.returns
returns c =
    text_at c.args.texts c.place_of.result
    ∙ ap (λ n. slice_index_or (map text_seen c.args.texts) n None) c.place_of.ensures.is
