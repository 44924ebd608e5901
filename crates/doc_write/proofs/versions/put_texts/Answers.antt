use Rattle.doc_sinks.proofs.Puts.{first}
use Rattle.doc_write.proofs.versions.put_texts.Goals as goal

pub returns : goal.returns
returns g c =
    first _ _ _ _ c.put_text.ensures (first _ _ _ _ c.put_text-2.ensures (first _ _ _ _ c.put_text-3.ensures (first _ _ _ _ c.put_text-4.ensures c.put_quality.ensures)))
