use Rattle.std.proofs.Common.{◌≡◌, drop, None}
use Rattle.cli_causes.specs.Causes.{wrong_letter}
use Rattle.cli_causes.proofs.causes.wrong_letter.Given as goal

abbrev pub invariant-loop-letter : goal.invariant-loop-letter
invariant-loop-letter l =
    wrong_letter l.command l.word l.previous (drop l.letter-index l.letters) ≡ wrong_letter l.command l.word None l.letters
