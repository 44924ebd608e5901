use Rattle.doc_spelling.proofs.IsoTexts.{iso_same}
use Rattle.cli_showing.proofs.history.iso_text.Goals as goal

pub returns : goal.returns
returns c = iso_same _ _ c.iso_of.ensures
