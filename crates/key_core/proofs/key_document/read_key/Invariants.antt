use Rattle.std.proofs.Common.{length}
use Rattle.std.specs.Prelude.{codes, option_map}
use Rattle.key_core.specs.KeyDocument.{last_says, told_in, told_of_key}
use Rattle.key_core.specs.Reading.{told_by}
use Rattle.key_core.proofs.Steps.{Follows}
use Rattle.key_core.proofs.key_document.read_key.Given as goal

abbrev pub invariant-items : goal.invariant-items
invariant-items l = Follows told_of_key (last_says (codes "Data") told_in (option_map told_by l.«data»)) l.fn.reader l.reader

abbrev pub decreases-items : goal.decreases-items
decreases-items l = length l.reader
