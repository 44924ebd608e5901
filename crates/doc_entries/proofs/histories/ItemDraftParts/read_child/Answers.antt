use Rattle.std.proofs.Common.{refl}
use Rattle.doc_forms.specs.Entries.{history_item_rows}
use Rattle.doc_entries.specs.SeenBuilders.{entry_known}
use Rattle.doc_walk.proofs.Branches.{checked_in}
use Rattle.doc_walk.proofs.Rests.{by_later_rows}
use Rattle.doc_entries.proofs.histories.ItemDraftParts.read_child.Goals as goal

pub returns-in-UUID : goal.returns-in-UUID
returns-in-UUID c = rw c.in-UUID.is (checked_in _ c.args.tag.now (entry_known c.args.self.now.known) c.check.ensures)

pub returns-in-PreviousParentGroup : goal.returns-in-PreviousParentGroup
returns-in-PreviousParentGroup c = rw c.in-PreviousParentGroup.is (checked_in _ c.args.tag.now (entry_known c.args.self.now.known) c.check-in-PreviousParentGroup.ensures)

pub returns-in_default : goal.returns-in_default
returns-in_default c =
    by_later_rows (λ _. entry_known c.version_child.new.known) c.args.walk.now c.version_child.new.walk c.version_child.result 2 history_item_rows (entry_known c.args.self.now.known) c.args.tag.now (λ _. refl)
    (λ _. (c.in_default.not-UUID, (c.in_default.not-PreviousParentGroup, tt)))
    c.version_child.ensures
