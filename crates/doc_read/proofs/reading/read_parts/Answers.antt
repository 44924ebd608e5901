-- What was read of the text is kept, as resolving it requires; the stream is the one that was given.
use Rattle.std.proofs.lemmas.Result.{err_from_is_err_and}
use Rattle.doc_read.proofs.KeptDocuments.{parts_kept}
use Rattle.doc_read.proofs.reading.read_parts.Goals as goal

pub invariant_of-result : goal.invariant_of-result
invariant_of-result c = record { file_is_kept = parts_kept _ _ _ c.in_ok-file.ensures }

pub returns-clause-parts : goal.returns-clause-parts
returns-clause-parts c = rw c.replace-stream.ensures.value at c.in_ok-file.ensures

pub returns-in_err-file-clause-parts : goal.returns-in_err-file-clause-parts
returns-in_err-file-clause-parts c =
    let p = err_from_is_err_and c.from_residual.result c.from_residual.ensures.1 in
    rw (p.1, p.2) (rw c.replace-stream.ensures.value at c.in_err-file.ensures)
