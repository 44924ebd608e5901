-- Both copies are documents.
use Rattle.merge_twins.proofs.Documents.{first_document, second_document}
use Rattle.merge_twins.proofs.laws.documents.Goals as goal

pub returns : goal.returns
returns c count few = (first_document count few, second_document count few)
