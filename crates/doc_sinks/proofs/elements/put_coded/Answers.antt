use Rattle.std.proofs.Common.{◌∙◌, ap, sym}
use Rattle.doc_spelling.proofs.ByteLists.{bytes_fit}
use Rattle.doc_sinks.proofs.Fitting.{bytes_stand}
use Rattle.doc_sinks.proofs.Puts.{leaf_put}
use Rattle.doc_sinks.proofs.elements.put_coded.Goals as goal

pub returns-clause-puts : goal.returns-clause-puts
returns-clause-puts g c =
    leaf_put _ _ _ _ _ c.open.ensures (rw (bytes_stand _ c.type_inv.bytes) c.put_coded.ensures) c.close.ensures

pub returns-clause-fits : goal.returns-clause-fits
returns-clause-fits g c = bytes_fit _ c.type_inv.bytes
