use Rattle.doc_sinks.proofs.Puts.{first, one}
use Rattle.doc_write.proofs.groups.put_choices.Goals as goal

pub returns-clause-puts : goal.returns-clause-puts
returns-clause-puts g c =
    first _ _ _ _ c.put_bool.ensures (first _ _ _ _ c.put_text.ensures (first _ _ _ _ c.put_tri.ensures (first _ _ _ _ c.put_tri-2.ensures (one _ _ _ c.put_id.ensures.puts))))
