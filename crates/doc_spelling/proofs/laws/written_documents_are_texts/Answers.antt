use Rattle.doc_spelling.proofs.GoodDocs.{doc_good}
use Rattle.doc_spelling.proofs.RangeTests.{hash_if}
use Rattle.doc_spelling.proofs.ReadsBack.{is_sound, is_written}
use Rattle.doc_spelling.proofs.laws.written_documents_are_texts.Goals as goal

pub returns : goal.returns
returns c form k hash d is_hash is h =
    let good_hash = hash_if hash is_hash in
    let good = doc_good d is h in
    (is_written form k hash good_hash d good, (is_sound form k hash good_hash d good).low)
