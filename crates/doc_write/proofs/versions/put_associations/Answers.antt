use Rattle.doc_sinks.proofs.Puts.{put_last, put_next}
use Rattle.doc_write.proofs.versions.put_associations.Goals as goal

pub loop-pair-preserved : goal.loop-pair-preserved
loop-pair-preserved g c = put_next _ _ _ _ _ _ c.loop-pair-test.true c.pair-item.is c.put_association.ensures c.loop-pair.invariant

pub returns : goal.returns
returns g c = put_last _ _ _ _ c.loop-pair-test.false c.loop-pair.invariant
