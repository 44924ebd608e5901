use Rattle.std.specs.Prelude.{is_some}
use Rattle.std.proofs.Common.{Some, ◌∙◌}
use Rattle.std.proofs.lemmas.Result.{err_from_is_err_and}
use Rattle.doc_forms.specs.Documents.{FileParts, RootParts}
use Rattle.doc_forms.specs.SeenDrafts.{file_parts, root_parts}
use Rattle.doc_read.proofs.OnlyRoot.{first_one, second_one, refused_one, same_some}
use Rattle.doc_read.proofs.outermost.root_child.Goals as goal

pub returns-then-fits : goal.returns-then-fits
returns-then-fits c =
    rw c.put.ensures
    (first_one (is_some (file_parts c.args.draft.now.file).root) c.args.tag.now.offset (λ (r : RootParts). let p : FileParts = record (file_parts c.args.draft.now.file) { root = Some r } in p)
    (same_some root_parts c.args.draft.now.file.root ∙ c.if-fits.ensures) c.in_ok-root.ensures)

pub returns-else-fits : goal.returns-else-fits
returns-else-fits c =
    second_one (is_some (file_parts c.args.draft.now.file).root) c.args.tag.now.offset (λ (r : RootParts). let p : FileParts = record (file_parts c.args.draft.now.file) { root = Some r } in p)
    (same_some root_parts c.args.draft.now.file.root ∙ c.if-fits.ensures) c.in_ok-root.ensures

pub returns-in_err-root : goal.returns-in_err-root
returns-in_err-root c =
    let p = err_from_is_err_and c.from_residual.result c.from_residual.ensures.1 in
    rw (p.1, p.2)
    (refused_one (is_some (file_parts c.args.draft.now.file).root) c.args.tag.now.offset (λ (r : RootParts). let q : FileParts = record (file_parts c.args.draft.now.file) { root = Some r } in q) c.in_err-root.ensures)
