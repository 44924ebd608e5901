use Rattle.std.proofs.Common.{◌≡◌, drop}
use Rattle.cli_options.specs.Options.{with_name}
use Rattle.cli_options.proofs.taking.with_name.Given as goal

abbrev pub invariant-loop-option : goal.invariant-loop-option
invariant-loop-option l = with_name l.name (drop l.option-index l.options) ≡ with_name l.name l.options
