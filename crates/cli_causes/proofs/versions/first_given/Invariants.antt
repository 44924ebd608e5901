use Rattle.std.proofs.Common.{◌≡◌, drop}
use Rattle.cli_options.specs.SaidWords.{said_seen}
use Rattle.cli_causes.specs.Versions.{first_given}
use Rattle.cli_causes.proofs.versions.first_given.Given as goal

abbrev pub invariant-loop-option : goal.invariant-loop-option
invariant-loop-option l =
    first_given (said_seen l.said) (drop l.option-index l.options) ≡ first_given (said_seen l.said) l.options
