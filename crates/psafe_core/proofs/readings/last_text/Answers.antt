use Rattle.psafe_core.specs.Records.{text_in}
use Rattle.psafe_file.specs.SeenFields.{fields_seen}
use Rattle.psafe_core.proofs.Lasts.{last_is, text_more}
use Rattle.psafe_core.proofs.readings.last_text.Goals as goal

pub loop-field-init : goal.loop-field-init
loop-field-init c = last_is (text_in c.args.kind) (fields_seen c.args.record_fields.now)

pub loop-field-preserved : goal.loop-field-preserved
loop-field-preserved c =
    text_more c.args.kind c.args.record_fields.now c.loop-field.field-index _ c.loop-field.last c.text_in.result c.or-last.result _
    c.loop-field-test.true c.or-last.ensures c.text_in.ensures c.loop-field.invariant
