use Rattle.std.proofs.Common.{◌≡◌, drop}
use Rattle.cli_profiles.specs.Profiles.{text_has}
use Rattle.cli_profiles.proofs.profiles.text_has.Given as goal

abbrev pub invariant-loop-b : goal.invariant-loop-b
invariant-loop-b l = text_has (drop l.b-index l.text) l.c ≡ text_has l.text l.c
