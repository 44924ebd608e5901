-- What is seen of a database that was opened: its document without memory.
use Rattle.vault_model.specs.SeenDoc.{doc_seen}
use Rattle.cli_files.specs.declared.documents.Opened as declared
use Rattle.cli_files.specs.Files.{Opened}

-- A database by its document's nodes, what its file is sealed with, and the columns passed over.
abbrev pub opened_seen : declared.Opened → Opened
opened_seen opened = record {
  doc = doc_seen opened.doc;
  sealing = opened.sealing;
  passed_over = opened.passed_over;
}
