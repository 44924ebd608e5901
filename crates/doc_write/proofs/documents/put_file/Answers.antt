use Rattle.doc_sinks.proofs.Puts.{boxed, first, one}
use Rattle.doc_write.proofs.documents.put_file.Goals as goal

pub returns-clause-puts : goal.returns-clause-puts
returns-clause-puts g c =
    boxed _ _ _ _ c.open.ensures (first _ _ _ _ c.put_meta.ensures.puts (one _ _ _ c.put_root.ensures.puts)) c.close.ensures
