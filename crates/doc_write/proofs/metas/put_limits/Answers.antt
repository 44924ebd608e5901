use Rattle.doc_sinks.proofs.Puts.{first, one}
use Rattle.doc_write.proofs.metas.put_limits.Goals as goal

pub returns-clause-puts : goal.returns-clause-puts
returns-clause-puts g c =
    first _ _ _ _ c.put_small_signed.ensures.puts (one _ _ _ c.put_signed.ensures.puts)
