use Rattle.std.proofs.Common.{List, ℕ}
use Rattle.doc_forms.specs.Entries.{ReadAttachment, attachment_rows}
use Rattle.doc_forms.specs.SeenDrafts.{attachment_seen}
use Rattle.doc_walk.proofs.Branches.{passed_over}
use Rattle.doc_walk.proofs.Rests.{kept_in}
use Rattle.doc_entries.proofs.attachments.AttachmentKnownParts.read_child.Goals as goal

pub returns-in-Key : goal.returns-in-Key
returns-in-Key c = rw c.in-Key.is (kept_in (λ (v : List ℕ). let p : ReadAttachment = record (attachment_seen c.args.self.now.attachment) { name = v } in p) c.keep.ensures)

pub returns-in-Value : goal.returns-in-Value
returns-in-Value c = rw c.in-Value.is c.attachment_value.ensures

pub returns-in_default : goal.returns-in_default
returns-in_default c =
    passed_over c.args.walk.now c.pass.new.self c.pass.result attachment_rows (attachment_seen c.args.self.now.attachment) c.args.tag.now
    (λ _. (c.in_default.not-Key, (c.in_default.not-Value, tt)))
    c.pass.ensures
