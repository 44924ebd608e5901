use Rattle.doc_attachments.proofs.pools.push.Goals as goal

pub returns-in-Ok : goal.returns-in-Ok
returns-in-Ok g c = c.in-Ok.ensures.ok
