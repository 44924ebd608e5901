use Rattle.std.proofs.Common.{inl, inr}
use Rattle.doc_sinks.proofs.Puts.{one}
use Rattle.doc_write.proofs.metas.put_settings_change.Goals as goal

pub returns-in-V3-clause-puts : goal.returns-in-V3-clause-puts
returns-in-V3-clause-puts g c = rw c.in-V3.is c.put_later_change.ensures.puts

pub returns-in-Plain-clause-puts : goal.returns-in-Plain-clause-puts
returns-in-Plain-clause-puts g c = elim c.in-Plain.is [
  | inl e ↦ rw e (one _ _ _ (rw e at c.put_time.ensures.puts))
  | inr e ↦ rw e (one _ _ _ (rw e at c.put_time.ensures.puts))
]
