use Rattle.std.proofs.Common.{◌≡◌, ◌++◌, map}
use Rattle.merge_building.specs.Tombs.{tomb_of}
use Rattle.merge_building.proofs.laid.tombs_in.Given as goal

abbrev pub invariant-loop-id : goal.invariant-loop-id
invariant-loop-id l = l.tombs ++ map tomb_of l.id-iterator ≡ map tomb_of l.initial.id-iterator
