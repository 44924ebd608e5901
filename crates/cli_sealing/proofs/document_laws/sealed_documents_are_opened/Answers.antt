use Rattle.kdbx_seal.specs.Made.{made_file}
use Rattle.kdbx_open.proofs.SealedFiles.{is_opened}
use Rattle.cli_sealing.specs.Contents.{made_contents}
use Rattle.cli_sealing.proofs.HeldDocuments.{is_held}
use Rattle.cli_sealing.proofs.document_laws.sealed_documents_are_opened.Goals as goal

pub returns : goal.returns
returns c s draws composite d is writable sealed =
    is_opened (made_file s draws composite d) composite (made_contents s draws d) (is_held s draws composite d is writable sealed)
