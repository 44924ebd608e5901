use Rattle.doc_sinks.proofs.Fitting.{both}
use Rattle.doc_sinks.proofs.Puts.{boxed, first, one}
use Rattle.doc_write.proofs.items.put_times.Goals as goal

pub returns-clause-puts : goal.returns-clause-puts
returns-clause-puts g c =
    boxed _ _ _ _ c.open.ensures (first _ _ _ _ c.put_time.ensures.puts (first _ _ _ _ c.put_time-2.ensures.puts (first _ _ _ _ c.put_time-3.ensures.puts (first _ _ _ _ c.put_time-4.ensures.puts (first _ _ _ _ c.put_bool.ensures (first _ _ _ _ c.put_number.ensures.puts (one _ _ _ c.put_time-5.ensures.puts))))))) c.close.ensures

pub returns-clause-fits : goal.returns-clause-fits
returns-clause-fits g c = let all = both (both (both (both (both c.put_time.ensures.fits c.put_time-2.ensures.fits) c.put_time-3.ensures.fits) c.put_time-4.ensures.fits) c.put_number.ensures.fits) c.put_time-5.ensures.fits in all
