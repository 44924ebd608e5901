use Rattle.doc_spelling.proofs.ByteLists.{bytes_fit}
use Rattle.doc_sinks.proofs.Puts.{secret_put}
use Rattle.doc_sinks.proofs.elements.put_secret.Goals as goal

pub returns-clause-puts : goal.returns-clause-puts
returns-clause-puts g c = secret_put _ _ _ _ _ c.open_protected.ensures c.put_hidden.ensures c.close.ensures

pub returns-clause-fits : goal.returns-clause-fits
returns-clause-fits g c = bytes_fit _ c.type_inv.bytes
