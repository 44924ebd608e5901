use Rattle.doc_sinks.proofs.Puts.{boxed, first, one}
use Rattle.doc_write.proofs.versions.put_association.Goals as goal

pub returns : goal.returns
returns g c =
    boxed _ _ _ _ c.open.ensures (first _ _ _ _ c.put_text.ensures (one _ _ _ c.put_text-2.ensures)) c.close.ensures
