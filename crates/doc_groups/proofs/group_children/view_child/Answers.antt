use Rattle.std.proofs.Common.{ℕ, Bool, Option, drop, refl}
use Rattle.doc_forms.specs.declared.times.Times.{Times}
use Rattle.vault_model.specs.Db.{NodeId}
use Rattle.doc_forms.specs.Groups.{GroupParts, group_rows, with_group_content}
use Rattle.doc_forms.specs.SeenDrafts.{group_parts_seen}
use Rattle.doc_entries.proofs.DocWalk.Rests.{by_later_rows, kept_in}
use Rattle.doc_groups.proofs.group_children.view_child.Goals as goal

pub returns-in-IconID : goal.returns-in-IconID
returns-in-IconID c = rw c.in-IconID.is (kept_in (λ (v : ℕ). with_group_content (λ m. record m { icon = v }) (group_parts_seen c.args.known.now)) c.keep.ensures)

pub returns-in-CustomIconUUID : goal.returns-in-CustomIconUUID
returns-in-CustomIconUUID c = rw c.in-CustomIconUUID.is (kept_in (λ (v : Option NodeId). with_group_content (λ m. record m { custom_icon = v }) (group_parts_seen c.args.known.now)) c.keep-in-CustomIconUUID.ensures)

pub returns-in-Times : goal.returns-in-Times
returns-in-Times c = rw c.in-Times.is (kept_in (λ (v : Times). let p : GroupParts = record (group_parts_seen c.args.known.now) { times = v } in p) c.times.ensures)

pub returns-in-IsExpanded : goal.returns-in-IsExpanded
returns-in-IsExpanded c = rw c.in-IsExpanded.is (kept_in (λ (v : Bool). let p : GroupParts = record (group_parts_seen c.args.known.now) { view = record c.args.known.now.view { expanded = v } } in p) c.keep-in-IsExpanded.ensures)

pub returns-in_default : goal.returns-in_default
returns-in_default c =
    by_later_rows (λ _. group_parts_seen c.typing_child.new.known) c.args.walk.now c.typing_child.new.walk c.typing_child.result 4 (λ s. drop 4 (group_rows s)) (group_parts_seen c.args.known.now) c.args.tag.now (λ _. refl)
    (λ _. (c.in_default.not-IconID, (c.in_default.not-CustomIconUUID, (c.in_default.not-Times, (c.in_default.not-IsExpanded, tt)))))
    c.typing_child.ensures
