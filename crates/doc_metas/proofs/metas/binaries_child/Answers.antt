use Rattle.std.proofs.Common.{List}
use Rattle.vault_model.specs.declared.forms.DocForm.TheVariants.{V3}
use Rattle.doc_forms.specs.Metas.{MetaParts, ReadBinary, binaries_rows}
use Rattle.doc_forms.specs.SeenDrafts.{meta_parts}
use Rattle.doc_walk.proofs.Branches.{passed_over}
use Rattle.doc_walk.proofs.Rests.{kept_in}
use Rattle.doc_metas.proofs.metas.binaries_child.Goals as goal

pub returns-in-Binaries : goal.returns-in-Binaries
returns-in-Binaries c = rw c.in-Binaries.is (kept_in (λ (v : List ReadBinary). let p : MetaParts = record (meta_parts c.args.known.now) { binaries = v } in p) c.binaries.ensures)

pub returns-in_default : goal.returns-in_default
returns-in_default c =
    passed_over c.args.walk.now c.pass.new.self c.pass.result (binaries_rows V3) (meta_parts c.args.known.now) c.args.tag.now
    (λ _. (c.in_default.not-Binaries, tt))
    c.pass.ensures
