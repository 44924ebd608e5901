use Rattle.doc_sinks.proofs.Puts.{before, first}
use Rattle.doc_write.proofs.versions.put_version.Goals as goal

pub returns-clause-puts : goal.returns-clause-puts
returns-clause-puts g c =
    let rows = first _ _ _ _ c.put_id.ensures.puts (before _ _ _ _ c.put_icon_names.ensures.puts (before _ _ _ _ c.put_texts.ensures (before _ _ _ _ c.put_previous.ensures.puts (first _ _ _ _ (rw c.version_times.ensures at c.put_times.ensures.puts) c.put_held.ensures.puts)))) in rows
