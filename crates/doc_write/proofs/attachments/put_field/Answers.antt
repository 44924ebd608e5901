use Rattle.doc_sinks.proofs.Puts.{boxed, first, one}
use Rattle.doc_write.proofs.attachments.put_field.Goals as goal

pub returns : goal.returns
returns g c =
    boxed _ _ _ _ c.open.ensures (first _ _ _ _ c.put_text.ensures (one _ _ _ c.put_value.ensures)) c.close.ensures
