-- What is seen of documents in memory: of their parts, of one that was read, and of the binaries
-- that a file keeps apart.
use Rattle.std.specs.Prelude.{ℕ, Bool, List, Option, option_map}
use Rattle.vault_model.specs.SeenDoc.{doc_seen}
use Rattle.vault_model.specs.declared.forms.PoolItem.{PoolItem}
use Rattle.doc_forms.specs.declared.documents.DocParts.{DocParts}
use Rattle.doc_forms.specs.declared.documents.ReadDoc.{ReadDoc}
use Rattle.doc_forms.specs.Documents.{DocumentAndHash, FileParts}
use Rattle.doc_forms.specs.SeenDrafts.{file_parts}

-- what is known at the end of a text
abbrev pub parts_seen : DocParts → Option FileParts
parts_seen p = option_map file_parts p.file

-- a document with the hash that it names
abbrev pub read_seen : ReadDoc → DocumentAndHash
read_seen r = (doc_seen r.doc, r.header_hash)

-- a binary that a file keeps apart, with its bytes
abbrev pub pool_item : PoolItem → List ℕ × Bool
pool_item p = (p.bytes.value.bytes, p.hidden)
