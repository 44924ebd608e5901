use Rattle.std.proofs.Common.{◌∙◌, ap, arith, map}
use Rattle.std.specs.Vec.Iter.{into_iter_items}
use Rattle.vault_model.specs.SeenNodes.{bare_version}
use Rattle.doc_forms.specs.Attachments as spec
use Rattle.doc_forms.specs.SeenDrafts.{version_seen}
use Rattle.doc_attachments.proofs.Lists.{all_made, nothing_left, pushed_more}
use Rattle.doc_attachments.proofs.resolving.resolved_versions.Goals as goal

pub loop-draft-preserved : goal.loop-draft-preserved
loop-draft-preserved c =
    pushed_more version_seen (spec.resolved_version c.args.pool.now) bare_version _
    (into_iter_items c.loop-draft.draft-iterator) (into_iter_items c.next.new.self) c.in-Some.draft c.loop-draft.resolved c.push_made.new.list c.resolved_version.result
    c.loop-draft.invariant c.in-Some.ensures.steps.0 c.resolved_version.ensures c.in_default.ensures

pub returns : goal.returns
returns c =
    ap (map bare_version) c.fit.ensures
    ∙ all_made version_seen (spec.resolved_version c.args.pool.now) bare_version _ (into_iter_items c.loop-draft.draft-iterator) c.loop-draft.resolved c.loop-draft.invariant
    (nothing_left _ (omega (arith, c.in-None.ensures.steps.0, c.loop-draft.draft-iterator.rest.ok.0)))
