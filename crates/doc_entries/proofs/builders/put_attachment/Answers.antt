use Rattle.doc_forms.specs.declared.drafts.AttachmentDraft.{AttachmentDraft}
use Rattle.doc_forms.specs.Tables.{put}
use Rattle.doc_entries.proofs.EntryPuts.{attachment_put, seen_after}
use Rattle.doc_entries.proofs.builders.put_attachment.Goals as goal

pub returns : goal.returns
returns c =
    seen_after c.put.result (put (λ (g : AttachmentDraft). g.name) c.args.attachment c.args.known.now.attachments) c.put.new.self _ _
    (attachment_put c.args.known.now c.args.attachment c.put.new.self) c.put.ensures
