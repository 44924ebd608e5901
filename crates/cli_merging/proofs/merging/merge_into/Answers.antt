use Rattle.std.proofs.Common.{map, refl}
use Rattle.vault_model.specs.SeenDoc.{doc_seen}
use Rattle.cli_merging.specs.Merging.{report_seen}
use Rattle.cli_merging.proofs.AfterMerges.{merged_told, unmerged_told}
use Rattle.cli_merging.proofs.merging.merge_into.Goals as goal

pub returns-in-Ok-finished-clause-told : goal.returns-in-Ok-finished-clause-told
returns-in-Ok-finished-clause-told c =
    merged_told c.args.given.file.now c.args.given.quiet c.args.given.dry c.args.given.details c.args.given.sources.now (doc_seen c.args.doc.now)
    (map doc_seen c.args.sources.now) c.in-Ok.merged (report_seen c.in-Ok-finished.report (doc_seen c.finished.new.doc)) c.in-Ok.ensures
    c.in-Ok-finished.ensures.told

pub returns-in-Err-clause-told : goal.returns-in-Err-clause-told
returns-in-Err-clause-told c = (
  unmerged_told c.args.given.file.now c.args.given.quiet c.args.given.dry c.args.given.details c.args.given.sources.now (doc_seen c.args.doc.now)
      (map doc_seen c.args.sources.now) c.in-Err.fail c.unmerged.result c.in-Err.ensures c.unmerged.ensures.is,
  refl,
)
