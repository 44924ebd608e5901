use Rattle.doc_sinks.proofs.Puts.{boxed, first, one}
use Rattle.doc_write.proofs.attachments.put_attachment.Goals as goal

pub returns-clause-puts : goal.returns-clause-puts
returns-clause-puts g c =
    boxed _ _ _ _ c.open.ensures (first _ _ _ _ c.put_text.ensures (one _ _ _ (rw c.number_of.ensures.number at c.put_leaf.ensures.puts))) c.close.ensures
