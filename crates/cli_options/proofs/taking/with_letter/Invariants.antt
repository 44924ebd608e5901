use Rattle.std.proofs.Common.{◌≡◌, drop}
use Rattle.cli_options.specs.Options.{with_letter}
use Rattle.cli_options.proofs.taking.with_letter.Given as goal

abbrev pub invariant-loop-option : goal.invariant-loop-option
invariant-loop-option l =
    with_letter l.letter (drop l.option-index l.options) ≡ with_letter l.letter l.options
