use Rattle.doc_forms.specs.Attachments.{missing_version}
use Rattle.doc_forms.specs.SeenDrafts.{version_seen}
use Rattle.doc_attachments.proofs.FirstMissing.{one_passed}
use Rattle.doc_attachments.proofs.missing.missing_in_versions.Goals as goal

pub loop-version-preserved : goal.loop-version-preserved
loop-version-preserved c =
    one_passed version_seen (missing_version c.args.pool.now) c.args.versions.now c.loop-version.version-index c.version-item.result c.loop-version.missing _ _ _
    c.loop-version-test.true c.version-item.is c.loop-version.invariant c.missing_in_version.ensures c.first_of-missing.ensures
