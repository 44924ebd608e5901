use Rattle.doc_sinks.proofs.Fitting.{all_end, all_more}
use Rattle.doc_sinks.proofs.Puts.{put_end, put_more}
use Rattle.doc_write.proofs.entries.put_history_items.Goals as goal

pub loop-version-preserved : goal.loop-version-preserved
loop-version-preserved g c = record {
  puts = put_more _ _ _ _ _ _ _ c.loop-version-test.true c.version-item.is c.put_history_item.ensures.puts c.loop-version.invariant.puts;
  fits = all_more _ _ _ _ _ c.loop-version-test.true c.version-item.is c.put_history_item.ensures.fits c.loop-version.invariant.fits;
}

pub returns-clause-puts : goal.returns-clause-puts
returns-clause-puts g c = put_end _ _ _ _ _ c.loop-version-test.false c.loop-version.invariant.puts

pub returns-clause-fits : goal.returns-clause-fits
returns-clause-fits g c = all_end _ _ _ _ c.loop-version-test.false c.loop-version.invariant.fits
