use Rattle.doc_sinks.proofs.Fitting.{both}
use Rattle.doc_sinks.proofs.Puts.{before, boxed, first}
use Rattle.doc_write.proofs.icons.put_icon.Goals as goal

pub returns-clause-puts : goal.returns-clause-puts
returns-clause-puts g c =
    let rows = (first _ _ _ _ c.put_id.ensures.puts (first _ _ _ _ (rw c.as_slice.ensures at c.put_coded.ensures.puts) (before _ _ _ _ c.put_any_text.ensures c.put_change.ensures.puts))) in
    boxed _ _ _ _ c.open.ensures rows c.close.ensures

pub returns-clause-fits : goal.returns-clause-fits
returns-clause-fits g c = let all = both (both c.put_id.ensures.fits (rw c.as_slice.ensures at c.put_coded.ensures.fits)) c.put_change.ensures.fits in all
