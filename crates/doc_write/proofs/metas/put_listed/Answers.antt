use Rattle.doc_sinks.proofs.Puts.{boxed}
use Rattle.doc_write.proofs.metas.put_listed.Goals as goal

pub returns : goal.returns
returns g c = boxed _ _ _ _ c.open.ensures c.put_binaries.ensures c.close.ensures
