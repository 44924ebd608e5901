use Rattle.std.proofs.Common.{◌≡◌, drop}
use Rattle.cli_options.specs.SaidWords.{reading_seen}
use Rattle.cli_options.specs.Said.{with_letters}
use Rattle.cli_options.proofs.words.add_letters.Given as goal

abbrev pub invariant-loop-letter : goal.invariant-loop-letter
invariant-loop-letter l =
    with_letters l.command (drop l.letter-index l.letters) (reading_seen l.given l.state)
    ≡ with_letters l.command l.letters (reading_seen l.initial.given l.initial.state)
