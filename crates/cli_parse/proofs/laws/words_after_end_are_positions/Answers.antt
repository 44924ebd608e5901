-- Words after `--`.
use Rattle.std.proofs.Common.{◌∷◌, ◌++◌, ◌∙◌, ap, codes}
use Rattle.std.specs.Option.{option_and_then}
use Rattle.cli_parse.specs.Words.{command_by, command_saying, or_wrong_words}
use Rattle.cli_options.proofs.Positions.{end_said}
use Rattle.cli_parse.proofs.laws.words_after_end_are_positions.Goals as goal

pub returns : goal.returns
returns c name command before words said is same d e =
    ap (λ named. or_wrong_words (option_and_then (command_by (before ++ codes "--" ∷ words)) named)) is
    ∙ ap (λ said. or_wrong_words (option_and_then (command_saying command) said)) (end_said command before words said same d e)
