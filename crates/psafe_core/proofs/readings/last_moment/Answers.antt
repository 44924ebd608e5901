use Rattle.psafe_core.specs.Records.{moment_in}
use Rattle.psafe_file.specs.SeenFields.{fields_seen}
use Rattle.psafe_core.proofs.Lasts.{last_is}
use Rattle.psafe_core.proofs.readings.last_moment.Goals as goal

pub loop-field-init : goal.loop-field-init
loop-field-init c = last_is (moment_in c.args.kind) (fields_seen c.args.record_fields.now)
