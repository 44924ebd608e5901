use Rattle.std.proofs.Common.{ℕ, List, drop, refl}
use Rattle.vault_model.specs.Db.{NodeId}
use Rattle.vault_model.specs.declared.contents.Tri.{Tri}
use Rattle.doc_forms.specs.Groups.{GroupParts, group_rows, with_group_content}
use Rattle.doc_forms.specs.SeenDrafts.{group_parts_seen}
use Rattle.doc_entries.proofs.DocWalk.Rests.{by_later_rows, kept_in}
use Rattle.doc_groups.proofs.group_children.typing_child.Goals as goal

pub returns-in-DefaultAutoTypeSequence : goal.returns-in-DefaultAutoTypeSequence
returns-in-DefaultAutoTypeSequence c = rw c.in-DefaultAutoTypeSequence.is (kept_in (λ (v : List ℕ). with_group_content (λ m. record m { sequence = v }) (group_parts_seen c.args.known.now)) c.keep.ensures)

pub returns-in-EnableAutoType : goal.returns-in-EnableAutoType
returns-in-EnableAutoType c = rw c.in-EnableAutoType.is (kept_in (λ (v : Tri). with_group_content (λ m. record m { auto_type = v }) (group_parts_seen c.args.known.now)) c.keep-in-EnableAutoType.ensures)

pub returns-in-EnableSearching : goal.returns-in-EnableSearching
returns-in-EnableSearching c = rw c.in-EnableSearching.is (kept_in (λ (v : Tri). with_group_content (λ m. record m { searching = v }) (group_parts_seen c.args.known.now)) c.keep-in-EnableSearching.ensures)

pub returns-in-LastTopVisibleEntry : goal.returns-in-LastTopVisibleEntry
returns-in-LastTopVisibleEntry c = rw c.in-LastTopVisibleEntry.is (kept_in (λ (v : NodeId). let p : GroupParts = record (group_parts_seen c.args.known.now) { view = record c.args.known.now.view { top_entry = v } } in p) c.keep-in-LastTopVisibleEntry.ensures)

pub returns-in_default : goal.returns-in_default
returns-in_default c =
    by_later_rows (λ _. group_parts_seen c.last_child.new.known) c.args.walk.now c.last_child.new.walk c.last_child.result 4 (λ s. drop 8 (group_rows s)) (group_parts_seen c.args.known.now) c.args.tag.now (λ _. refl)
    (λ _. (c.in_default.not-DefaultAutoTypeSequence, (c.in_default.not-EnableAutoType, (c.in_default.not-EnableSearching, (c.in_default.not-LastTopVisibleEntry, tt)))))
    c.last_child.ensures
