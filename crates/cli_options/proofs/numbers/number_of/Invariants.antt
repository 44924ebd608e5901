use Rattle.std.proofs.Common.{◌≡◌, ◌<◌, ◌^◌, drop}
use Rattle.cli_options.specs.Numbers.{number_after}
use Rattle.cli_options.proofs.numbers.number_of.Given as goal

abbrev pub invariant-loop-b : goal.invariant-loop-b
invariant-loop-b l = record {
  value : number_after l.number (drop l.b-index l.digits) ≡ number_after 0 l.digits;
  small : l.number < 10 ^ l.b-index;
}
