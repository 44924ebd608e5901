use Rattle.std.proofs.Common.{sym}
use Rattle.std.specs.Prelude.{codes}
use Rattle.doc_spelling.specs.Pieces.{unless_nil}
use Rattle.doc_spelling.specs.Values.{id_piece}
use Rattle.doc_write.proofs.PutOptions.{nil_fits, not_nil_no, not_nil_yes, put_no, put_some}
use Rattle.doc_write.proofs.icons.put_previous.Goals as goal

pub returns-then-not-is_nil-clause-puts : goal.returns-then-not-is_nil-clause-puts
returns-then-not-is_nil-clause-puts g c =
    put_some _ _ (id_piece (codes "PreviousParentGroup")) (unless_nil c.args.previous) c.args.previous
    (not_nil_yes c.args.previous (sym c.if-not-is_nil.ensures)) c.put_id.ensures.puts

pub returns-else-not-is_nil-clause-puts : goal.returns-else-not-is_nil-clause-puts
returns-else-not-is_nil-clause-puts g c =
    put_no _ (id_piece (codes "PreviousParentGroup")) (unless_nil c.args.previous) (not_nil_no c.args.previous (sym c.if-not-is_nil.ensures))

pub returns-else-not-is_nil-clause-fits : goal.returns-else-not-is_nil-clause-fits
returns-else-not-is_nil-clause-fits g c = nil_fits c.args.previous (sym c.if-not-is_nil.ensures)
