use Rattle.doc_read.proofs.KeptDocuments.{parts_kept}
use Rattle.doc_read.proofs.document_laws.parts_are_kept.Goals as goal

pub returns : goal.returns
returns c = parts_kept
