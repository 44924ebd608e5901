-- The tree that is made of a laid document has its shape.
use Rattle.merge_core.proofs.TreeShape.{laid_document}
use Rattle.merge_core.proofs.join_laws.laid.Goals as goal

pub returns : goal.returns
returns c n m t s root fits = laid_document n m t s fits
