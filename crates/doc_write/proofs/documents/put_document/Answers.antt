use Rattle.doc_write.proofs.documents.put_document.Goals as goal

pub returns-clause-puts : goal.returns-clause-puts
returns-clause-puts g c = rw c.put.ensures at c.put_file.ensures.puts
