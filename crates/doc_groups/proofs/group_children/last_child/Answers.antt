use Rattle.std.proofs.Common.{List, drop}
use Rattle.vault_model.specs.Db.{NodeId}
use Rattle.vault_model.specs.declared.contents.Item.{Item}
use Rattle.doc_forms.specs.Groups.{GroupParts, group_rows, with_group_content}
use Rattle.doc_forms.specs.SeenDrafts.{group_parts_seen}
use Rattle.doc_entries.proofs.DocWalk.Branches.{passed_over}
use Rattle.doc_entries.proofs.DocWalk.Rests.{kept_in}
use Rattle.doc_groups.proofs.group_children.last_child.Goals as goal

pub returns-in-PreviousParentGroup : goal.returns-in-PreviousParentGroup
returns-in-PreviousParentGroup c = rw c.in-PreviousParentGroup.is (kept_in (λ (v : NodeId). let p : GroupParts = record (group_parts_seen c.args.known.now) { previous = v } in p) c.keep.ensures)

pub returns-in-CustomData : goal.returns-in-CustomData
returns-in-CustomData c = rw c.in-CustomData.is (kept_in (λ (v : List Item). with_group_content (λ m. record m { items = v }) (group_parts_seen c.args.known.now)) c.custom_data.ensures)

pub returns-in_default : goal.returns-in_default
returns-in_default c =
    passed_over c.args.walk.now c.pass.new.self c.pass.result (λ s. drop 12 (group_rows s)) (group_parts_seen c.args.known.now) c.args.tag.now
    (λ _. (c.in_default.not-PreviousParentGroup, (c.in_default.not-CustomData, (c.in_default.not-Entry, tt))))
    c.pass.ensures

pub returns-in-Entry : goal.returns-in-Entry
returns-in-Entry c = rw c.in-Entry.is c.entry_child.ensures
