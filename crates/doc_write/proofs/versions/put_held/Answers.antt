use Rattle.doc_sinks.proofs.Puts.{before, first}
use Rattle.doc_write.proofs.versions.put_held.Goals as goal

pub returns-clause-puts : goal.returns-clause-puts
returns-clause-puts g c =
    let rows = before _ _ _ _ (rw c.as_slice.ensures at c.put_fields.ensures) (before _ _ _ _ (rw c.as_slice-2.ensures at c.put_attachments.ensures.puts) (first _ _ _ _ c.put_auto_type.ensures.puts (rw c.as_slice-3.ensures at c.put_any_items.ensures.puts))) in rows
