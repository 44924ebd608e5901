use Rattle.std.proofs.Common.{◌∙◌, sym}
use Rattle.cli_options.specs.SaidWords.{reading_seen}
use Rattle.cli_options.proofs.ValueWords.{next_given}
use Rattle.cli_options.proofs.words.add_word.Goals as goal

pub returns-in-Some-2 : goal.returns-in-Some-2
returns-in-Some-2 c =
    rw (next_given c.args.command (reading_seen c.args.given.now c.args.state.now) c.in-Some-2.option c.args.word.now c.in-Some-2.is (sym c.is_option.ensures ∙ c.if-is_option.false))
    c.add_given.ensures
