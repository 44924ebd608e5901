use Rattle.std.proofs.Common.{◌≡◌, drop}
use Rattle.find_core.specs.Folding.{contains}
use Rattle.find_core.proofs.folding.contains.Given as goal

abbrev pub invariant-loop-at : goal.invariant-loop-at
invariant-loop-at l = contains (drop l.at l.text) l.part ≡ contains l.text l.part
