use Rattle.doc_entries.proofs.histories.put_versions.Goals as goal

pub returns : goal.returns
returns c = c.shrink_to_fit.ensures.items
