use Rattle.doc_sinks.proofs.Puts.{boxed}
use Rattle.doc_write.proofs.entries.put_history.Goals as goal

pub returns-clause-puts : goal.returns-clause-puts
returns-clause-puts g c =
    boxed _ _ _ _ c.open.ensures (rw c.as_slice.ensures at c.put_history_items.ensures.puts) c.close.ensures
