use Rattle.std.proofs.lemmas.Result.{err_from_is_err_and}
use Rattle.doc_forms.specs.SeenDrafts.{binary_seen}
use Rattle.doc_forms.specs.SeenTexts.{text_seen}
use Rattle.std.specs.Prelude.{map}
use Rattle.doc_metas.proofs.BinaryRefusals.{binary_refused}
use Rattle.doc_metas.proofs.binaries.binary.Goals as goal

pub returns-in_err-binary : goal.returns-in_err-binary
returns-in_err-binary c =
    let p = err_from_is_err_and c.from_residual-in_err-binary.result c.from_residual-in_err-binary.ensures.1 in
    rw (p.1, p.2)
    (binary_refused text_seen c.in_ok-text.text _ c.args.walk.now c.element_text.new.self c.args.tag.now (map binary_seen c.args.draft.now.binaries) c.in_err-binary.field-0.0 c.in_ok-text.ensures c.in_err-binary.ensures)
