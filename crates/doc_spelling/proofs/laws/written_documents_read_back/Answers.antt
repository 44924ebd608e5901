use Rattle.doc_spelling.proofs.GoodDocs.{doc_good}
use Rattle.doc_spelling.proofs.RangeTests.{hash_if}
use Rattle.doc_spelling.proofs.ReadsBack.{says_document}
use Rattle.doc_spelling.proofs.laws.written_documents_read_back.Goals as goal

pub returns : goal.returns
returns c form k hash d is_hash is h = says_document form k hash (hash_if hash is_hash) d (doc_good d is h)
