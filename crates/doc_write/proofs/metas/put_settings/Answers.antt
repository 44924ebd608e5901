use Rattle.doc_sinks.proofs.Puts.{before, first, one}
use Rattle.doc_write.proofs.metas.put_settings.Goals as goal

pub returns-clause-puts : goal.returns-clause-puts
returns-clause-puts g c =
    first _ _ _ _ c.put_number.ensures.puts (first _ _ _ _ c.put_text.ensures (first _ _ _ _ c.put_time.ensures.puts (first _ _ _ _ c.put_signed.ensures.puts (first _ _ _ _ c.put_signed-2.ensures.puts (before _ _ _ _ c.put_force_once.ensures (first _ _ _ _ c.put_protection.ensures (one _ _ _ (rw c.as_slice.ensures at c.put_icons.ensures.puts))))))))
