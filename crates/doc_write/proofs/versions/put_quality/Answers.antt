use Rattle.std.proofs.Common.{false, refl}
use Rattle.std.specs.Prelude.{codes}
use Rattle.doc_spelling.specs.Pieces.{unless_true}
use Rattle.doc_spelling.specs.Values.{bool_piece}
use Rattle.doc_write.proofs.PutOptions.{put_no, put_some}
use Rattle.doc_write.proofs.versions.put_quality.Goals as goal

pub returns-then-not-quality : goal.returns-then-not-quality
returns-then-not-quality g c =
    put_some _ _ (bool_piece (codes "QualityCheck")) (unless_true c.args.quality) false (rw c.if-not-quality.true refl) c.put_bool.ensures

pub returns-else-not-quality : goal.returns-else-not-quality
returns-else-not-quality g c =
    put_no _ (bool_piece (codes "QualityCheck")) (unless_true c.args.quality) (rw c.if-not-quality.false refl)
