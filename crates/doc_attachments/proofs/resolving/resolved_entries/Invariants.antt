use Rattle.std.proofs.Common.{◌≡◌, ◌++◌, map}
use Rattle.std.specs.Vec.Iter.{into_iter_items}
use Rattle.vault_model.specs.SeenNodes.{entry_row}
use Rattle.doc_forms.specs.Attachments as spec
use Rattle.doc_forms.specs.SeenDrafts.{entry_seen}
use Rattle.doc_attachments.proofs.resolving.resolved_entries.Given as goal

-- what is resolved, with what is left, is all
abbrev pub invariant-loop-draft : goal.invariant-loop-draft
invariant-loop-draft l =
    map entry_row l.resolved ++ map (spec.resolved_entry l.pool) (map entry_seen (into_iter_items l.draft-iterator))
    ≡ map (spec.resolved_entry l.pool) (map entry_seen l.fn.drafts.items)
