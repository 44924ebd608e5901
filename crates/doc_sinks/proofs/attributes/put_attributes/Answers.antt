use Rattle.doc_sinks.proofs.attributes.put_attributes.Goals as goal

pub returns-in-InMemory : goal.returns-in-InMemory
returns-in-InMemory g c = rw c.in-InMemory.is (cc)
