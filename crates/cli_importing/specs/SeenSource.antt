-- What is seen of a source in memory.
use Rattle.vault_model.specs.SeenDoc.{doc_seen}
use Rattle.cli_importing.specs.declared.sources.Source as memory
use Rattle.cli_importing.specs.Imports.{Source}

-- A source by its document's nodes, and the columns that are passed over.
abbrev pub source_seen : memory.Source → Source
source_seen source = record { doc = doc_seen source.doc; passed_over = source.passed_over }
