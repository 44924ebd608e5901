use Rattle.std.proofs.Common.{sym}
use Rattle.cli_options.specs.SaidWords.{reading_seen}
use Rattle.cli_options.proofs.ValueWords.{long_given}
use Rattle.cli_options.proofs.words.add_long.Goals as goal

pub returns-in-true-Some : goal.returns-in-true-Some
returns-in-true-Some c =
    rw (c.in-Some.is, c.in-true-Some.is-1, long_given (reading_seen c.args.given.now c.args.state.now) c.in-Some.option c.in-true-Some.value.now (sym c.in-true-Some.ensures))
    c.add_given.ensures
