use Rattle.std.proofs.Common.{◌≡◌, drop}
use Rattle.cli_options.specs.Said.{with_words}
use Rattle.cli_options.specs.SaidWords.{reading_seen}
use Rattle.cli_sessions.proofs.lines.add_words.Given as goal

abbrev pub invariant-loop-word : goal.invariant-loop-word
invariant-loop-word l =
    with_words l.command (drop l.word-index l.words) (reading_seen l.given l.state)
    ≡ with_words l.command l.words (reading_seen l.initial.given l.initial.state)
