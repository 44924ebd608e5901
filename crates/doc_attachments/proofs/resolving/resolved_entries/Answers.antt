use Rattle.std.proofs.Common.{◌∙◌, ap, arith, map}
use Rattle.std.specs.Vec.Iter.{into_iter_items}
use Rattle.vault_model.specs.SeenNodes.{entry_row}
use Rattle.doc_forms.specs.Attachments as spec
use Rattle.doc_forms.specs.SeenDrafts.{entry_seen}
use Rattle.doc_attachments.proofs.Lists.{all_made, nothing_left, pushed_more}
use Rattle.doc_attachments.proofs.resolving.resolved_entries.Goals as goal

pub loop-draft-preserved : goal.loop-draft-preserved
loop-draft-preserved c =
    pushed_more entry_seen (spec.resolved_entry c.args.pool.now) entry_row _
    (into_iter_items c.loop-draft.draft-iterator) (into_iter_items c.next.new.self) c.in-Some.draft c.loop-draft.resolved c.push_made.new.list c.resolved_entry.result
    c.loop-draft.invariant c.in-Some.ensures.steps.0 c.resolved_entry.ensures c.in_default.ensures

pub returns : goal.returns
returns c =
    ap (map entry_row) c.fit.ensures
    ∙ all_made entry_seen (spec.resolved_entry c.args.pool.now) entry_row _ (into_iter_items c.loop-draft.draft-iterator) c.loop-draft.resolved c.loop-draft.invariant
    (nothing_left _ (omega (arith, c.in-None.ensures.steps.0, c.loop-draft.draft-iterator.rest.ok.0)))
