use Rattle.std.proofs.Common.{List, Some, refl}
use Rattle.std.proofs.lemmas.Result.{err_from_is_err_and}
use Rattle.vault_model.specs.Db.{NodeId}
use Rattle.doc_forms.specs.Entries.{EntryParts, ReadVersion, entry_rows}
use Rattle.doc_entries.specs.SeenBuilders.{entry_known}
use Rattle.doc_walk.proofs.Branches.{put_in, refused_in}
use Rattle.doc_walk.proofs.Rests.{by_later_rows, kept_in}
use Rattle.doc_entries.proofs.entries.EntryKnownParts.read_child.Goals as goal

pub returns-in_ok-value-in-UUID : goal.returns-in_ok-value-in-UUID
returns-in_ok-value-in-UUID c = rw c.in-UUID.is (put_in (λ (v : NodeId). let p : EntryParts = record (entry_known c.args.self.now.known) { id = Some v } in p) c.in_ok-value-in-UUID.ensures refl)

pub returns-in_err-value-in-UUID : goal.returns-in_err-value-in-UUID
returns-in_err-value-in-UUID c =
    let p = err_from_is_err_and c.from_residual.result c.from_residual.ensures.1 in
    rw (p.1, p.2, c.in-UUID.is) (refused_in (λ (v : NodeId). let p : EntryParts = record (entry_known c.args.self.now.known) { id = Some v } in p) c.in_err-value-in-UUID.ensures)

pub returns-in-History : goal.returns-in-History
returns-in-History c = rw c.in-History.is (kept_in (λ (v : List ReadVersion). let p : EntryParts = record (entry_known c.args.self.now.known) { history = v } in p) c.history.ensures)

pub returns-in-PreviousParentGroup : goal.returns-in-PreviousParentGroup
returns-in-PreviousParentGroup c = rw c.in-PreviousParentGroup.is (kept_in (λ (v : NodeId). let p : EntryParts = record (entry_known c.args.self.now.known) { previous = v } in p) c.keep.ensures)

pub returns-in_default : goal.returns-in_default
returns-in_default c =
    by_later_rows (λ _. entry_known c.version_child.new.known) c.args.walk.now c.version_child.new.walk c.version_child.result 3 entry_rows (entry_known c.args.self.now.known) c.args.tag.now (λ _. refl)
    (λ _. (c.in_default.not-UUID, (c.in_default.not-History, (c.in_default.not-PreviousParentGroup, tt))))
    c.version_child.ensures
