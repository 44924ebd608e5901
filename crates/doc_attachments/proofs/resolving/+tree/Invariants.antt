use Rattle.std.proofs.Common.{◌≡◌, ◌++◌, map}
use Rattle.std.specs.Vec.Iter.{into_iter_items}
use Rattle.vault_model.specs.SeenNodes.{tree_seen}
use Rattle.doc_forms.specs.Attachments as spec
use Rattle.doc_forms.specs.SeenDrafts.{draft_seen}
use Rattle.doc_attachments.proofs.resolving.+tree.Given as goal

-- what is resolved, with what is left, is all
abbrev pub invariant-resolved_groups-loop-draft : goal.invariant-resolved_groups-loop-draft
invariant-resolved_groups-loop-draft l =
    map tree_seen l.resolved ++ map (spec.resolved_tree l.pool) (map draft_seen (into_iter_items l.draft-iterator))
    ≡ map (spec.resolved_tree l.pool) (map draft_seen l.fn.drafts.items)
