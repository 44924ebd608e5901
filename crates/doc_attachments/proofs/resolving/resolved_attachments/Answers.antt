use Rattle.std.proofs.Common.{◌+◌, ◌∙◌, ap, drop, map}
use Rattle.std.proofs.lemmas.List.{drop_all}
use Rattle.vault_model.specs.Seen.{bare_attachment}
use Rattle.doc_forms.specs.Attachments as spec
use Rattle.doc_forms.specs.SeenDrafts.{attachment_seen}
use Rattle.doc_attachments.proofs.Lists.{all_made, one_left, pushed_more}
use Rattle.doc_attachments.proofs.resolving.resolved_attachments.Goals as goal

pub loop-draft-preserved : goal.loop-draft-preserved
loop-draft-preserved c =
    let drafts = c.args.drafts.now in
    let at = c.loop-draft.draft-index in
    pushed_more attachment_seen (spec.resolved_attachment c.args.pool.now) bare_attachment _
    (drop at drafts) (drop (at + 1) drafts) c.draft-item.result c.loop-draft.resolved c.push_made.new.list c.resolved_attachment.result
    c.loop-draft.invariant (one_left drafts at c.draft-item.result c.loop-draft-test.true c.draft-item.is) c.resolved_attachment.ensures c.in_default.ensures

pub returns : goal.returns
returns c =
    ap (map bare_attachment) c.fit.ensures
    ∙ all_made attachment_seen (spec.resolved_attachment c.args.pool.now) bare_attachment _
    (drop c.loop-draft.draft-index c.args.drafts.now) c.loop-draft.resolved c.loop-draft.invariant (drop_all _ _ c.loop-draft-test.false)
