-- Options in either order.
use Rattle.std.proofs.Common.{◌++◌, ◌∙◌, ap, sym}
use Rattle.std.specs.Option.{option_and_then}
use Rattle.cli_parse.specs.Words.{command_by, command_saying, or_wrong_words}
use Rattle.cli_options.proofs.OptionWords.{options_exchanged}
use Rattle.cli_parse.proofs.laws.options_have_no_order.Goals as goal

pub returns : goal.returns
returns c name command before after a b f g is h one two other =
    ap (λ named. or_wrong_words (option_and_then (command_by (before ++ (a ++ (b ++ after)))) named)) is
    ∙ ap (λ said. or_wrong_words (option_and_then (command_saying command) said)) (options_exchanged command before after a b f g h one two other)
    ∙ sym (ap (λ named. or_wrong_words (option_and_then (command_by (before ++ (b ++ (a ++ after)))) named)) is)
