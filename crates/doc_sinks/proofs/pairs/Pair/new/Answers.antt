use Rattle.doc_spelling.proofs.ByteLists.{bytes_fit}
use Rattle.doc_sinks.proofs.pairs.Pair.new.Goals as goal

pub returns-clause-fits : goal.returns-clause-fits
returns-clause-fits c = bytes_fit _ c.type_inv.bytes
