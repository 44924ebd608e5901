-- Joined flags and separate ones.
use Rattle.std.proofs.Common.{◌∷◌, ◌++◌, ◌∙◌, ap, codes, sym}
use Rattle.std.specs.Option.{option_and_then}
use Rattle.cli_parse.specs.Words.{command_by, command_saying, or_wrong_words}
use Rattle.cli_options.proofs.FlagWords.{separate}
use Rattle.cli_parse.proofs.laws.joined_flags_are_separate_flags.Goals as goal

pub returns : goal.returns
returns c name command before after a b is h f g =
    ap (λ named. or_wrong_words (option_and_then (command_by (before ++ (codes "-" ++ a ++ b) ∷ after)) named)) is
    ∙ ap (λ said. or_wrong_words (option_and_then (command_saying command) said)) (separate command before after a b h f g)
    ∙ sym (ap (λ named. or_wrong_words (option_and_then (command_by (before ++ (codes "-" ++ a) ∷ (codes "-" ++ b) ∷ after)) named)) is)
