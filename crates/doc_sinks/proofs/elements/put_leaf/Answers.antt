use Rattle.doc_spelling.proofs.ByteLists.{bytes_fit}
use Rattle.doc_sinks.proofs.Puts.{leaf_put}
use Rattle.doc_sinks.proofs.elements.put_leaf.Goals as goal

pub returns-clause-puts : goal.returns-clause-puts
returns-clause-puts g c = leaf_put _ _ _ _ _ c.open.ensures c.put_escaped.ensures c.close.ensures

pub returns-clause-fits : goal.returns-clause-fits
returns-clause-fits g c = bytes_fit _ c.type_inv.text
