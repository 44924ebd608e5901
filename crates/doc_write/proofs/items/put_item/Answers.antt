use Rattle.doc_sinks.proofs.Puts.{boxed, first}
use Rattle.doc_write.proofs.items.put_item.Goals as goal

pub returns-clause-puts : goal.returns-clause-puts
returns-clause-puts g c =
    boxed _ _ _ _ c.open.ensures (first _ _ _ _ c.put_text.ensures (first _ _ _ _ c.put_text-2.ensures c.put_change.ensures.puts)) c.close.ensures
