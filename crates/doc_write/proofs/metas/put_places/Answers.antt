use Rattle.doc_sinks.proofs.Fitting.{both}
use Rattle.doc_sinks.proofs.Fitting.{both}
use Rattle.doc_sinks.proofs.Puts.{first, one}
use Rattle.doc_write.proofs.metas.put_places.Goals as goal

pub returns-clause-puts : goal.returns-clause-puts
returns-clause-puts g c =
    first _ _ _ _ c.put_bool.ensures (first _ _ _ _ c.put_id.ensures.puts (first _ _ _ _ c.put_time.ensures.puts (first _ _ _ _ c.put_id-2.ensures.puts (first _ _ _ _ c.put_time-2.ensures.puts (first _ _ _ _ c.put_id-3.ensures.puts (one _ _ _ c.put_id-4.ensures.puts))))))

pub returns-clause-fits : goal.returns-clause-fits
returns-clause-fits g c = let all = both (both (both c.put_id.ensures.fits c.put_id-2.ensures.fits) c.put_id-3.ensures.fits) c.put_id-4.ensures.fits in all

pub returns-clause-changes : goal.returns-clause-changes
returns-clause-changes g c = let all = both c.put_time.ensures.fits c.put_time-2.ensures.fits in all
