use Rattle.std.proofs.Common.{ℕ}
use Rattle.vault_model.specs.Db.{NodeId}
use Rattle.vault_model.specs.declared.nodes.Tombstone.{Tombstone}
use Rattle.doc_forms.specs.Documents.{tomb_rows}
use Rattle.doc_entries.proofs.DocWalk.Branches.{passed_over}
use Rattle.doc_entries.proofs.DocWalk.Rests.{kept_in}
use Rattle.doc_groups.proofs.tombs.TombDraftParts.read_child.Goals as goal

pub returns-in-UUID : goal.returns-in-UUID
returns-in-UUID c = rw c.in-UUID.is (kept_in (λ (v : NodeId). let p : Tombstone = record c.args.self.now.tomb { id = v } in p) c.keep.ensures)

pub returns-in-DeletionTime : goal.returns-in-DeletionTime
returns-in-DeletionTime c = rw c.in-DeletionTime.is (kept_in (λ (v : ℕ). let p : Tombstone = record c.args.self.now.tomb { deleted = v } in p) c.keep-in-DeletionTime.ensures)

pub returns-in_default : goal.returns-in_default
returns-in_default c =
    passed_over c.args.walk.now c.pass.new.self c.pass.result tomb_rows c.args.self.now.tomb c.args.tag.now
    (λ _. (c.in_default.not-UUID, (c.in_default.not-DeletionTime, tt)))
    c.pass.ensures
