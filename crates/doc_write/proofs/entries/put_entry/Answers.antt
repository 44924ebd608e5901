use Rattle.doc_sinks.proofs.Fitting.{both}
use Rattle.doc_sinks.proofs.Puts.{before, boxed, one}
use Rattle.doc_write.proofs.entries.put_entry.Goals as goal

pub returns-clause-puts : goal.returns-clause-puts
returns-clause-puts g c =
    let rows = (before _ _ _ _ c.put_version.ensures.puts (one _ _ _ c.put_history.ensures.puts)) in
    boxed _ _ _ _ c.open.ensures rows c.close.ensures

pub returns-clause-fits : goal.returns-clause-fits
returns-clause-fits g c = let all = both (both (both c.put_version.ensures.id c.put_version.ensures.previous) c.put_version.ensures.fits) c.put_history.ensures.fits in all
