use Rattle.doc_entries.proofs.histories.version_in.Goals as goal

pub returns : goal.returns
returns c = c.version_of.ensures
