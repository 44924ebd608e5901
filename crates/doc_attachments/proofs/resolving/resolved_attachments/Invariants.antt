use Rattle.std.proofs.Common.{◌≡◌, ◌++◌, drop, map}
use Rattle.vault_model.specs.Seen.{bare_attachment}
use Rattle.doc_forms.specs.Attachments as spec
use Rattle.doc_forms.specs.SeenDrafts.{attachment_seen}
use Rattle.doc_attachments.proofs.resolving.resolved_attachments.Given as goal

-- what is resolved, with what is left, is all
abbrev pub invariant-loop-draft : goal.invariant-loop-draft
invariant-loop-draft l =
    map bare_attachment l.resolved ++ map (spec.resolved_attachment l.pool) (map attachment_seen (drop l.draft-index l.drafts))
    ≡ map (spec.resolved_attachment l.pool) (map attachment_seen l.drafts)
