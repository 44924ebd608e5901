use Rattle.doc_sinks.proofs.Fitting.{all_last, all_next}
use Rattle.doc_sinks.proofs.Puts.{put_last, put_next}
use Rattle.doc_write.proofs.items.put_item_list.Goals as goal

pub loop-item-preserved : goal.loop-item-preserved
loop-item-preserved g c = record {
  puts = put_next _ _ _ _ _ _ c.loop-item-test.true c.item-item.is c.put_item.ensures.puts c.loop-item.invariant.puts;
  fits = all_next _ _ _ _ c.loop-item-test.true c.item-item.is c.put_item.ensures.fits c.loop-item.invariant.fits;
}

pub returns-clause-puts : goal.returns-clause-puts
returns-clause-puts g c = put_last _ _ _ _ c.loop-item-test.false c.loop-item.invariant.puts

pub returns-clause-fits : goal.returns-clause-fits
returns-clause-fits g c = all_last _ _ _ c.loop-item-test.false c.loop-item.invariant.fits
