use Rattle.std.proofs.lemmas.Result.{err_from_is_err_and}
use Rattle.doc_forms.specs.SeenDrafts.{attachment_seen}
use Rattle.doc_walk.proofs.Branches.{then_in, then_refused}
use Rattle.doc_entries.specs.AttachmentTexts.{value_by_text}
use Rattle.doc_entries.proofs.AttachmentValues.{valued}
use Rattle.doc_entries.proofs.attachments.attachment_value.Goals as goal

pub returns : goal.returns
returns c =
    let seen = attachment_seen c.args.known.now.attachment in
    valued c.args.tag.now seen (then_in (value_by_text c.args.tag.now.offset c.args.tag.now.attrs.raw.now seen) c.in_ok-text.ensures c.put_value.ensures)

pub returns-in_err-text : goal.returns-in_err-text
returns-in_err-text c =
    let seen = attachment_seen c.args.known.now.attachment in
    let p = err_from_is_err_and c.from_residual.result c.from_residual.ensures.1 in
    rw (p.1, p.2) (valued c.args.tag.now seen (then_refused (value_by_text c.args.tag.now.offset c.args.tag.now.attrs.raw.now seen) c.in_err-text.ensures))
