use Rattle.doc_sinks.proofs.Puts.{boxed}
use Rattle.doc_write.proofs.entries.put_history_item.Goals as goal

pub returns-clause-puts : goal.returns-clause-puts
returns-clause-puts g c =
    boxed _ _ _ _ c.open.ensures c.put_version.ensures.puts c.close.ensures
