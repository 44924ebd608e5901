use Rattle.std.proofs.Common.{length}
use Rattle.std.specs.Prelude.{codes}
use Rattle.key_core.specs.KeyDocument.{last_says, version_in, version_of_meta}
use Rattle.key_core.proofs.Steps.{Follows}
use Rattle.key_core.proofs.key_document.read_meta.Given as goal

abbrev pub invariant-items : goal.invariant-items
invariant-items l = Follows version_of_meta (last_says (codes "Version") version_in l.version) l.fn.reader l.reader

abbrev pub decreases-items : goal.decreases-items
decreases-items l = length l.reader
