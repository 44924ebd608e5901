use Rattle.doc_spelling.proofs.NewDocs.{new_writable}
use Rattle.doc_spelling.proofs.laws.new_documents_are_writable.Goals as goal

pub returns : goal.returns
returns c = new_writable
