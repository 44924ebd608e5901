use Rattle.std.proofs.Common.{◌∙◌, ap, arith, map}
use Rattle.std.specs.Vec.Iter.{into_iter_items}
use Rattle.vault_model.specs.SeenNodes.{tree_seen}
use Rattle.doc_forms.specs.declared.drafts.GroupDraft.TheViews.{out-GroupDraft}
use Rattle.doc_forms.specs.Attachments as spec
use Rattle.doc_forms.specs.SeenDrafts.{draft_seen}
use Rattle.doc_attachments.proofs.GroupTrees.{tree_made}
use Rattle.doc_attachments.proofs.Lists.{all_made, nothing_left, pushed_more}
use Rattle.doc_attachments.proofs.resolving.+tree.Goals as goal

pub resolved_tree-returns-in-Ok : goal.resolved_tree-returns-in-Ok
resolved_tree-returns-in-Ok t c =
    let draft = out-GroupDraft c.args.draft in
    let entries = rw c.in-Ok.ensures.first at c.resolved_entries-entries.ensures in
    let groups = rw c.in-Ok.ensures.second at c.resolved_groups-groups.ensures in
    tree_made c.args.pool.now c.args.draft
    (record { id = draft.id; placed = draft.placed; previous = draft.previous; state = draft.state; view = draft.view; entries = c.in-Ok.nodes.0; groups = c.in-Ok.nodes.1 })
    (λ i. draft.id) (λ i. draft.placed) (λ i. draft.previous) (λ i. draft.state) (λ i. draft.view) entries groups

pub resolved_groups-loop-draft-preserved : goal.resolved_groups-loop-draft-preserved
resolved_groups-loop-draft-preserved t c =
    pushed_more draft_seen (spec.resolved_tree c.args.pool.now) tree_seen _
    (into_iter_items c.loop-draft.draft-iterator) (into_iter_items c.next.new.self) c.in-Some.draft c.loop-draft.resolved c.push_made.new.list c.resolved_tree.result
    c.loop-draft.invariant c.in-Some.ensures.steps.0 c.resolved_tree.ensures c.in_default.ensures

pub resolved_groups-returns : goal.resolved_groups-returns
resolved_groups-returns t c =
    ap (map tree_seen) c.fit.ensures
    ∙ all_made draft_seen (spec.resolved_tree c.args.pool.now) tree_seen _ (into_iter_items c.loop-draft.draft-iterator) c.loop-draft.resolved c.loop-draft.invariant
    (nothing_left _ (omega (arith, c.in-None.ensures.steps.0, c.loop-draft.draft-iterator.rest.ok.0)))
