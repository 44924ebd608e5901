use Rattle.std.proofs.Common.{inl, inr}
use Rattle.doc_sinks.proofs.Puts.{done, one}
use Rattle.doc_write.proofs.metas.put_pool.Goals as goal

pub returns-in-Plain : goal.returns-in-Plain
returns-in-Plain g c = elim c.in-Plain.is [
  | inl e ↦ rw e (one _ _ _ (rw (e, c.items.ensures) at c.put_listed.ensures))
  | inr e ↦ rw e (one _ _ _ (rw (e, c.items.ensures) at c.put_listed.ensures))
]

pub returns-in-V4 : goal.returns-in-V4
returns-in-V4 g c = rw c.in-V4.is (done _)
