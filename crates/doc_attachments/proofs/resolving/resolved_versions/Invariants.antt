use Rattle.std.proofs.Common.{◌≡◌, ◌++◌, map}
use Rattle.std.specs.Vec.Iter.{into_iter_items}
use Rattle.vault_model.specs.SeenNodes.{bare_version}
use Rattle.doc_forms.specs.Attachments as spec
use Rattle.doc_forms.specs.SeenDrafts.{version_seen}
use Rattle.doc_attachments.proofs.resolving.resolved_versions.Given as goal

-- what is resolved, with what is left, is all
abbrev pub invariant-loop-draft : goal.invariant-loop-draft
invariant-loop-draft l =
    map bare_version l.resolved ++ map (spec.resolved_version l.pool) (map version_seen (into_iter_items l.draft-iterator))
    ≡ map (spec.resolved_version l.pool) (map version_seen l.fn.drafts.items)
