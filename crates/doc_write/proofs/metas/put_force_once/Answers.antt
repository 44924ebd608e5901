use Rattle.std.proofs.Common.{true, refl}
use Rattle.std.specs.Prelude.{codes}
use Rattle.doc_spelling.specs.Pieces.{unless_false}
use Rattle.doc_spelling.specs.Values.{bool_piece}
use Rattle.doc_write.proofs.PutOptions.{put_no, put_some}
use Rattle.doc_write.proofs.metas.put_force_once.Goals as goal

pub returns-then-once : goal.returns-then-once
returns-then-once g c =
    put_some _ _ (bool_piece (codes "MasterKeyChangeForceOnce")) (unless_false c.args.once) true (rw c.if-once.true refl) c.put_bool.ensures

pub returns-else-once : goal.returns-else-once
returns-else-once g c =
    put_no _ (bool_piece (codes "MasterKeyChangeForceOnce")) (unless_false c.args.once) (rw c.if-once.false refl)
