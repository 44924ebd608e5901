use Rattle.doc_sinks.proofs.Puts.{begun_by}
use Rattle.doc_sinks.proofs.elements.open.Goals as goal

pub returns : goal.returns
returns g c = begun_by _ _ _ _ (cc)
