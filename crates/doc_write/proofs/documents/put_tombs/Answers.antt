use Rattle.doc_sinks.proofs.Puts.{boxed}
use Rattle.doc_write.proofs.documents.put_tombs.Goals as goal

pub returns-clause-puts : goal.returns-clause-puts
returns-clause-puts g c =
    boxed _ _ _ _ c.open.ensures c.put_tomb_list.ensures.puts c.close.ensures
