use Rattle.std.proofs.Common.{take}
use Rattle.std.specs.List.{find}
use Rattle.find_references.proofs.IndexSteps.{rows_among}
use Rattle.find_references.specs.inside.Indexed.{Adds, has_compared}
use Rattle.find_references.proofs.indexing.+add_group.Given as goal

abbrev pub invariant-loop-child : goal.invariant-loop-child
invariant-loop-child l =
    Adds (λ bytes. find (has_compared l.place bytes) (rows_among (take l.child-index l.child-items))) l.initial.index l.index
