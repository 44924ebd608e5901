use Rattle.std.proofs.Common.{arith}
use Rattle.doc_spelling.specs.Pieces.{text_piece, unless_empty}
use Rattle.doc_write.proofs.PutOptions.{filled_no, filled_yes, put_no, put_some}
use Rattle.doc_write.proofs.icons.put_any_text.Goals as goal

pub returns-then-len-ne0 : goal.returns-then-len-ne0
returns-then-len-ne0 g c =
    put_some _ _ (text_piece c.args.name.now) (unless_empty c.args.value.now) c.args.value.now
    (filled_yes c.args.value.now (omega (arith, c.len.ensures, c.if-len-ne0.true))) c.put_text.ensures

pub returns-else-len-ne0 : goal.returns-else-len-ne0
returns-else-len-ne0 g c =
    put_no _ (text_piece c.args.name.now) (unless_empty c.args.value.now) (filled_no c.args.value.now (omega (arith, c.len.ensures, c.if-len-ne0.false)))
