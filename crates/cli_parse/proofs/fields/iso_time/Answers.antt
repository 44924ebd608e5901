use Rattle.cli_parse.proofs.IsoTimes.{iso_found}
use Rattle.cli_parse.proofs.fields.iso_time.Goals as goal

pub returns : goal.returns
returns c = iso_found c.stamp_of_iso.result c.args.text.now c.stamp_of_iso.ensures
