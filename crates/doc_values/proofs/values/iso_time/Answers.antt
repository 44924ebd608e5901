use Rattle.doc_values.proofs.TimeTexts.{iso_found}
use Rattle.doc_values.proofs.values.iso_time.Goals as goal

pub returns : goal.returns
returns c = iso_found c.stamp_of_iso.result c.args.text.now c.stamp_of_iso.ensures
