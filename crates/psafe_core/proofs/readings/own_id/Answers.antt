use Rattle.psafe_core.specs.Records.{id_in}
use Rattle.psafe_file.specs.SeenFields.{fields_seen}
use Rattle.psafe_core.proofs.Lasts.{last_is}
use Rattle.psafe_core.proofs.readings.own_id.Goals as goal

pub loop-field-init : goal.loop-field-init
loop-field-init c = last_is id_in (fields_seen c.args.record_fields.now)
