use Rattle.doc_sinks.proofs.Fitting.{all_end, all_more}
use Rattle.doc_sinks.proofs.Puts.{put_end, put_more}
use Rattle.doc_write.proofs.GroupPieces.{group_boxed, group_fits}
use Rattle.doc_write.proofs.groups.+put_group.Goals as goal

pub loop-below-preserved : goal.loop-below-preserved
loop-below-preserved g t c = record {
  puts = put_more _ _ _ _ _ _ _ c.loop-below-test.true c.below-item.is c.put_group.ensures.puts c.loop-below.invariant.puts;
  fits = all_more _ _ _ _ _ c.loop-below-test.true c.below-item.is c.put_group.ensures.fits c.loop-below.invariant.fits;
}

pub returns-clause-puts : goal.returns-clause-puts
returns-clause-puts g t c =
    group_boxed _ _ _ _ _ _ _ c.open.ensures c.put_record.ensures.puts c.as_slice.ensures c.put_entries.ensures.puts c.as_slice-below-items.ensures
    (put_end _ _ _ _ _ c.loop-below-test.false c.loop-below.invariant.puts) c.close.ensures

pub returns-clause-fits : goal.returns-clause-fits
returns-clause-fits g t c =
    group_fits c.args.group.now _ _ c.put_record.ensures.fits c.as_slice.ensures c.put_entries.ensures.fits c.as_slice-below-items.ensures
    (all_end _ _ _ _ c.loop-below-test.false c.loop-below.invariant.fits)
