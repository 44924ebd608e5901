use Rattle.doc_sinks.proofs.Fitting.{all_end, all_more}
use Rattle.doc_sinks.proofs.Puts.{put_end, put_more}
use Rattle.doc_write.proofs.entries.put_entries.Goals as goal

pub loop-entry-preserved : goal.loop-entry-preserved
loop-entry-preserved g c = record {
  puts = put_more _ _ _ _ _ _ _ c.loop-entry-test.true c.entry-item.is c.put_entry.ensures.puts c.loop-entry.invariant.puts;
  fits = all_more _ _ _ _ _ c.loop-entry-test.true c.entry-item.is c.put_entry.ensures.fits c.loop-entry.invariant.fits;
}

pub returns-clause-puts : goal.returns-clause-puts
returns-clause-puts g c = put_end _ _ _ _ _ c.loop-entry-test.false c.loop-entry.invariant.puts

pub returns-clause-fits : goal.returns-clause-fits
returns-clause-fits g c = all_end _ _ _ _ c.loop-entry-test.false c.loop-entry.invariant.fits
