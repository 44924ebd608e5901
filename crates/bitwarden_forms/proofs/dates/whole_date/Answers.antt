use Rattle.table_reading.proofs.IsoTimes.{iso_found}
use Rattle.bitwarden_forms.proofs.dates.whole_date.Goals as goal

pub returns : goal.returns
returns c = iso_found c.stamp_of_iso.result c.args.text.now c.stamp_of_iso.ensures
