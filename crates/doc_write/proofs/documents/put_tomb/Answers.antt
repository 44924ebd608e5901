use Rattle.doc_sinks.proofs.Fitting.{both}
use Rattle.doc_sinks.proofs.Puts.{boxed, first, one}
use Rattle.doc_write.proofs.documents.put_tomb.Goals as goal

pub returns-clause-puts : goal.returns-clause-puts
returns-clause-puts g c =
    boxed _ _ _ _ c.open.ensures (first _ _ _ _ c.put_id.ensures.puts (one _ _ _ c.put_time.ensures.puts)) c.close.ensures

pub returns-clause-fits : goal.returns-clause-fits
returns-clause-fits g c = let all = both c.put_id.ensures.fits c.put_time.ensures.fits in all
