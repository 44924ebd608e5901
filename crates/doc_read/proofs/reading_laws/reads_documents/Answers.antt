-- What is read is a document.
use Rattle.doc_read.proofs.ReadDocuments.{read_is_doc}
use Rattle.doc_read.proofs.reading_laws.reads_documents.Goals as goal

pub returns : goal.returns
returns c = read_is_doc
