use Rattle.doc_sinks.proofs.Fitting.{all_end, all_more}
use Rattle.doc_sinks.proofs.Puts.{put_end, put_more}
use Rattle.doc_write.proofs.attachments.put_attachments.Goals as goal

pub loop-file-preserved : goal.loop-file-preserved
loop-file-preserved g c = record {
  puts = put_more _ _ _ _ _ _ _ c.loop-file-test.true c.file-item.is c.put_attachment.ensures.puts c.loop-file.invariant.puts;
  fits = all_more _ _ _ _ _ c.loop-file-test.true c.file-item.is c.put_attachment.ensures.fits c.loop-file.invariant.fits;
}

pub returns-clause-puts : goal.returns-clause-puts
returns-clause-puts g c = put_end _ _ _ _ _ c.loop-file-test.false c.loop-file.invariant.puts

pub returns-clause-fits : goal.returns-clause-fits
returns-clause-fits g c = all_end _ _ _ _ c.loop-file-test.false c.loop-file.invariant.fits
