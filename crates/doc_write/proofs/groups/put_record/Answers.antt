use Rattle.doc_sinks.proofs.Puts.{before, first}
use Rattle.doc_write.proofs.groups.put_record.Goals as goal

pub returns-clause-puts : goal.returns-clause-puts
returns-clause-puts g c =
    let rows = first _ _ _ _ c.put_id.ensures.puts (before _ _ _ _ c.put_names.ensures.puts (first _ _ _ _ (rw c.group_times.ensures at c.put_times.ensures.puts) (before _ _ _ _ c.put_choices.ensures.puts (before _ _ _ _ c.put_previous.ensures.puts (rw c.as_slice.ensures at c.put_any_items.ensures.puts))))) in rows
