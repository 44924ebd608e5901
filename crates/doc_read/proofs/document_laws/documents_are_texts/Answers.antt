use Rattle.doc_read.proofs.SoundDocuments.{of_text}
use Rattle.doc_read.proofs.document_laws.documents_are_texts.Goals as goal

pub returns : goal.returns
returns c = of_text
