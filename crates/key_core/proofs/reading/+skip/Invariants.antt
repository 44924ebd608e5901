use Rattle.std.proofs.Common.{length}
use Rattle.key_core.proofs.Steps.{Follows}
use Rattle.key_core.proofs.reading.+skip.Given as goal

abbrev pub decreases-skip : goal.decreases-skip
decreases-skip l = length l.reader.now

abbrev pub invariant-items : goal.invariant-items
invariant-items l = Follows {A = Unit {0}} (λ content. tt) (λ content. tt) l.fn.reader l.reader

abbrev pub decreases-items : goal.decreases-items
decreases-items l = length l.reader
