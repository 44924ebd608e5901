-- What is seen of a document in memory.
use Rattle.vault_model.specs.declared.documents.Doc.{Doc}
use Rattle.vault_model.specs.SeenNodes.{document_of}
use Rattle.vault_model.specs.Tree.{BareDoc}

-- the document without memory
abbrev pub doc_seen : Doc → BareDoc
doc_seen d = document_of d.meta d.root d.tombs
