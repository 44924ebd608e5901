use Rattle.doc_sinks.proofs.Fitting.{all_last, all_next}
use Rattle.doc_sinks.proofs.Puts.{put_last, put_next}
use Rattle.doc_write.proofs.documents.put_tomb_list.Goals as goal

pub loop-tomb-preserved : goal.loop-tomb-preserved
loop-tomb-preserved g c = record {
  puts = put_next _ _ _ _ _ _ c.loop-tomb-test.true c.tomb-item.is c.put_tomb.ensures.puts c.loop-tomb.invariant.puts;
  fits = all_next _ _ _ _ c.loop-tomb-test.true c.tomb-item.is c.put_tomb.ensures.fits c.loop-tomb.invariant.fits;
}

pub returns-clause-puts : goal.returns-clause-puts
returns-clause-puts g c = put_last _ _ _ _ c.loop-tomb-test.false c.loop-tomb.invariant.puts

pub returns-clause-fits : goal.returns-clause-fits
returns-clause-fits g c = all_last _ _ _ c.loop-tomb-test.false c.loop-tomb.invariant.fits
