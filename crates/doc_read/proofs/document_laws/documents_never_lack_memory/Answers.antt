use Rattle.doc_read.proofs.SoundDocuments.{never_memory}
use Rattle.doc_read.proofs.document_laws.documents_never_lack_memory.Goals as goal

pub returns : goal.returns
returns c = never_memory
