use Rattle.std.proofs.Common.{length}
use Rattle.key_core.specs.Reading.{says_by, says_of}
use Rattle.key_core.proofs.Roots.{says_further}
use Rattle.key_core.proofs.Steps.{Follows}
use Rattle.key_core.proofs.key_document.read_root.Given as goal

abbrev pub invariant-items : goal.invariant-items
invariant-items l = Follows says_of (says_further (says_by l.document)) l.fn.reader l.reader

abbrev pub decreases-items : goal.decreases-items
decreases-items l = length l.reader
