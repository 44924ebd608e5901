use Rattle.doc_sinks.proofs.Fitting.{all_last, all_next}
use Rattle.doc_sinks.proofs.Puts.{put_last, put_next}
use Rattle.doc_write.proofs.icons.put_icon_list.Goals as goal

pub loop-icon-preserved : goal.loop-icon-preserved
loop-icon-preserved g c = record {
  puts = put_next _ _ _ _ _ _ c.loop-icon-test.true c.icon-item.is c.put_icon.ensures.puts c.loop-icon.invariant.puts;
  fits = all_next _ _ _ _ c.loop-icon-test.true c.icon-item.is c.put_icon.ensures.fits c.loop-icon.invariant.fits;
}

pub returns-clause-puts : goal.returns-clause-puts
returns-clause-puts g c = put_last _ _ _ _ c.loop-icon-test.false c.loop-icon.invariant.puts

pub returns-clause-fits : goal.returns-clause-fits
returns-clause-fits g c = all_last _ _ _ c.loop-icon-test.false c.loop-icon.invariant.fits
