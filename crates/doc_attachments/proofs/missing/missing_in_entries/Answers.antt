use Rattle.std.proofs.Common.{ap, map, ◌∙◌}
use Rattle.std.specs.List.{flat_map}
use Rattle.doc_forms.specs.Attachments.{first_missing, missing_entry, missing_version}
use Rattle.doc_forms.specs.SeenDrafts.{entry_seen, version_seen}
use Rattle.doc_attachments.proofs.FirstMissing.{first_both, one_passed}
use Rattle.doc_attachments.proofs.missing.missing_in_entries.Goals as goal

pub loop-entry-preserved : goal.loop-entry-preserved
loop-entry-preserved c =
    let pool = c.args.pool.now in
    let entry = c.entry-item.result in
    one_passed entry_seen (missing_entry pool) c.args.entries.now c.loop-entry.entry-index entry c.loop-entry.missing _ _ _
    c.loop-entry-test.true c.entry-item.is c.loop-entry.invariant
    (c.first_of.ensures
    ∙ first_both c.missing_in_version-current.result c.missing_in_versions-history.result (missing_version pool (version_seen entry.current))
    (flat_map (missing_version pool) (map version_seen entry.history.items)) c.missing_in_version-current.ensures
    (c.missing_in_versions-history.ensures ∙ ap (λ vs. first_missing (flat_map (missing_version pool) (map version_seen vs))) c.as_slice.ensures.value))
    c.first_of-missing.ensures
