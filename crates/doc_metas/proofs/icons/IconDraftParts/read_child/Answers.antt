use Rattle.std.proofs.Common.{ℕ, List}
use Rattle.vault_model.specs.Db.{NodeId}
use Rattle.vault_model.specs.declared.metas.Icon.{Icon}
use Rattle.doc_forms.specs.Metas.{icon_rows}
use Rattle.doc_walk.proofs.Branches.{passed_over}
use Rattle.doc_walk.proofs.Rests.{kept_in}
use Rattle.doc_metas.proofs.icons.IconDraftParts.read_child.Goals as goal

pub returns-in-UUID : goal.returns-in-UUID
returns-in-UUID c = rw c.in-UUID.is (kept_in (λ (v : NodeId). let p : Icon = record c.args.self.now.icon { id = v } in p) c.keep.ensures)

pub returns-in-Data : goal.returns-in-Data
returns-in-Data c = rw c.in-Data.is (kept_in (λ (v : List ℕ). let p : Icon = record c.args.self.now.icon { bytes = v } in p) c.keep-in-Data.ensures)

pub returns-in-Name : goal.returns-in-Name
returns-in-Name c = rw c.in-Name.is (kept_in (λ (v : List ℕ). let p : Icon = record c.args.self.now.icon { name = v } in p) c.keep-in-Name.ensures)

pub returns-in-LastModificationTime : goal.returns-in-LastModificationTime
returns-in-LastModificationTime c = rw c.in-LastModificationTime.is (kept_in (λ (v : ℕ). let p : Icon = record c.args.self.now.icon { changed = v } in p) c.keep-in-LastModificationTime.ensures)

pub returns-in_default : goal.returns-in_default
returns-in_default c =
    passed_over c.args.walk.now c.pass.new.self c.pass.result icon_rows c.args.self.now.icon c.args.tag.now
    (λ _. (c.in_default.not-UUID, (c.in_default.not-Data, (c.in_default.not-Name, (c.in_default.not-LastModificationTime, tt)))))
    c.pass.ensures
