use Rattle.std.proofs.Common.{inl, inr}
use Rattle.doc_sinks.proofs.Puts.{done}
use Rattle.doc_write.proofs.metas.put_hash.Goals as goal

pub returns-in-Plain : goal.returns-in-Plain
returns-in-Plain g c = elim c.in-Plain.is [ inl e ↦ rw e (done _) | inr e ↦ rw e (done _) ]
