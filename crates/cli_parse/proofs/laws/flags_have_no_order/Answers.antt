-- Flags in either order.
use Rattle.std.proofs.Common.{◌∷◌, ◌++◌, ◌∙◌, ap, sym}
use Rattle.std.specs.Option.{option_and_then}
use Rattle.cli_parse.specs.Words.{command_by, command_saying, or_wrong_words}
use Rattle.cli_options.proofs.FlagWords.{exchanged}
use Rattle.cli_parse.proofs.laws.flags_have_no_order.Goals as goal

pub returns : goal.returns
returns c name command before after a b is h one two =
    ap (λ named. or_wrong_words (option_and_then (command_by (before ++ a ∷ b ∷ after)) named)) is
    ∙ ap (λ said. or_wrong_words (option_and_then (command_saying command) said)) (exchanged command before after a b h one two)
    ∙ sym (ap (λ named. or_wrong_words (option_and_then (command_by (before ++ b ∷ a ∷ after)) named)) is)
