use Rattle.std.proofs.Common.{ℕ, List, refl}
use Rattle.doc_forms.specs.Groups.{group_rows, with_group_content}
use Rattle.doc_forms.specs.SeenDrafts.{group_parts_seen}
use Rattle.doc_entries.proofs.DocWalk.Rests.{by_later_rows, kept_in}
use Rattle.doc_groups.proofs.group_children.read_child.Goals as goal

pub returns-in-Name : goal.returns-in-Name
returns-in-Name c = rw c.in-Name.is (kept_in (λ (v : List ℕ). with_group_content (λ m. record m { name = v }) (group_parts_seen c.args.known.now)) c.keep.ensures)

pub returns-in-Notes : goal.returns-in-Notes
returns-in-Notes c = rw c.in-Notes.is (kept_in (λ (v : List ℕ). with_group_content (λ m. record m { notes = v }) (group_parts_seen c.args.known.now)) c.keep-in-Notes.ensures)

pub returns-in-Tags : goal.returns-in-Tags
returns-in-Tags c = rw c.in-Tags.is (kept_in (λ (v : List ℕ). with_group_content (λ m. record m { tags = v }) (group_parts_seen c.args.known.now)) c.keep-in-Tags.ensures)

pub returns-in_default : goal.returns-in_default
returns-in_default c =
    by_later_rows (λ _. group_parts_seen c.view_child.new.known) c.args.walk.now c.view_child.new.walk c.view_child.result 4 group_rows (group_parts_seen c.args.known.now) c.args.tag.now (λ _. refl)
    (λ _. (c.in_default.not-UUID, (c.in_default.not-Name, (c.in_default.not-Notes, (c.in_default.not-Tags, tt)))))
    c.view_child.ensures
