use Rattle.doc_sinks.proofs.Fitting.{both}
use Rattle.doc_sinks.proofs.Puts.{before, first, one}
use Rattle.doc_write.proofs.metas.put_titles.Goals as goal

pub returns-clause-puts : goal.returns-clause-puts
returns-clause-puts g c =
    before _ _ _ _ c.put_settings_change.ensures.puts (first _ _ _ _ c.put_text.ensures (first _ _ _ _ c.put_time.ensures.puts (first _ _ _ _ c.put_text-2.ensures (first _ _ _ _ c.put_time-2.ensures.puts (first _ _ _ _ c.put_text-3.ensures (one _ _ _ c.put_time-3.ensures.puts))))))

pub returns-clause-fits : goal.returns-clause-fits
returns-clause-fits g c = let all = both (both (both c.put_settings_change.ensures.fits c.put_time.ensures.fits) c.put_time-2.ensures.fits) c.put_time-3.ensures.fits in all
