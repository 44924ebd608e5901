use Rattle.doc_sinks.proofs.Puts.{before, first}
use Rattle.doc_write.proofs.groups.put_names.Goals as goal

pub returns-clause-puts : goal.returns-clause-puts
returns-clause-puts g c =
    let rows = first _ _ _ _ c.put_text.ensures (first _ _ _ _ c.put_text-2.ensures (before _ _ _ _ c.put_any_text.ensures c.put_icon_names.ensures.puts)) in rows
