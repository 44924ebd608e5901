use Rattle.doc_sinks.proofs.Puts.{put_end, put_more}
use Rattle.doc_write.proofs.attachments.put_fields.Goals as goal

pub loop-field-preserved : goal.loop-field-preserved
loop-field-preserved g c = put_more _ _ _ _ _ _ _ c.loop-field-test.true c.field-item.is c.put_field.ensures c.loop-field.invariant

pub returns : goal.returns
returns g c = put_end _ _ _ _ _ c.loop-field-test.false c.loop-field.invariant
