use Rattle.doc_sinks.proofs.Puts.{boxed, first}
use Rattle.doc_write.proofs.versions.put_auto_type.Goals as goal

pub returns-clause-puts : goal.returns-clause-puts
returns-clause-puts g c =
    boxed _ _ _ _ c.open.ensures (first _ _ _ _ c.put_bool.ensures (first _ _ _ _ c.put_number.ensures.puts (first _ _ _ _ c.put_text.ensures (rw c.as_slice.ensures at c.put_associations.ensures)))) c.close.ensures
