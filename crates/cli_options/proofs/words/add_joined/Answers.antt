use Rattle.std.proofs.Common.{◌∙◌, sym}
use Rattle.cli_options.specs.SaidWords.{reading_seen}
use Rattle.cli_options.proofs.ValueWords.{joined_given}
use Rattle.cli_options.proofs.words.add_joined.Goals as goal

pub returns-else-is_empty : goal.returns-else-is_empty
returns-else-is_empty c =
    rw (joined_given (reading_seen c.args.given.now c.args.state.now) c.args.option c.args.joined.now (sym c.is_empty.ensures ∙ c.if-is_empty.false))
    (rw c.without_sign.ensures at c.add_given.ensures)
