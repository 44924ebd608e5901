use Rattle.doc_forms.specs.Documents.{FileParts, file_rows}
use Rattle.doc_forms.specs.Metas.{MetaParts}
use Rattle.doc_forms.specs.SeenDrafts.{file_parts}
use Rattle.doc_groups.proofs.DocWalk.Branches.{passed_over}
use Rattle.doc_groups.proofs.DocWalk.Rests.{kept_in}
use Rattle.doc_read.proofs.outermost.FileDraftParts.read_child.Goals as goal

pub returns-in-Meta : goal.returns-in-Meta
returns-in-Meta c = rw c.in-Meta.is (kept_in (λ (v : MetaParts). let p : FileParts = record (file_parts c.args.self.now.file) { meta = v } in p) c.meta.ensures)

pub returns-in-Root : goal.returns-in-Root
returns-in-Root c = rw c.in-Root.is c.root_child.ensures

pub returns-in_default : goal.returns-in_default
returns-in_default c =
    passed_over c.args.walk.now c.pass.new.self c.pass.result file_rows (file_parts c.args.self.now.file) c.args.tag.now
    (λ _. (c.in_default.not-Meta, (c.in_default.not-Root, tt)))
    c.pass.ensures
