use Rattle.cli_sealing.proofs.HeldDocuments.{is_held}
use Rattle.cli_sealing.proofs.document_laws.sealed_documents_are_held.Goals as goal

pub returns : goal.returns
returns c = is_held
