-- What is seen of databases that were opened: their documents without memory.
use Rattle.std.specs.Prelude.{map}
use Rattle.vault_model.specs.SeenDoc.{doc_seen}
use Rattle.cli_databases.specs.declared.databases.Databases as memory
use Rattle.cli_files.specs.Files.{Databases}
use Rattle.cli_files.specs.SeenOpened.{opened_seen}

-- The databases of a call by the nodes of their documents, and what the file of the first is sealed
-- with.
abbrev pub databases_seen : memory.Databases → Databases
databases_seen databases = record {
  target = opened_seen databases.target;
  sources = map doc_seen databases.sources;
}
