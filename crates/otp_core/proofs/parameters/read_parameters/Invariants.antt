use Rattle.std.proofs.Common.{◌≡◌, ◌≤◌, ◌+◌, length}
use Rattle.otp_core.specs.Answers.{parameters_seen}
use Rattle.otp_core.specs.Reading.{with_parameters, parts_between}
use Rattle.otp_core.proofs.parameters.read_parameters.Given as goal

abbrev pub invariant-parts : goal.invariant-parts
invariant-parts l = record {
  value : with_parameters l.fn.from (parts_between 38 l.fn.text) (parameters_seen l.fn.found) ≡ with_parameters l.at (parts_between 38 l.rest) (parameters_seen l.found);
  within : l.at + length l.rest ≤ l.fn.from + length l.fn.text;
}

abbrev pub decreases-parts : goal.decreases-parts
decreases-parts l = length l.rest
