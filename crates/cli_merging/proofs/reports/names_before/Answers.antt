use Rattle.std.proofs.Common.{sym, ◌∙◌}
use Rattle.vault_model.specs.SeenDoc.{doc_seen}
use Rattle.cli_merging.specs.Names.{name_at}
use Rattle.cli_merging.specs.Reports.{name_in}
use Rattle.cli_merging.proofs.UntoldNames.{lines_untold}
use Rattle.cli_merging.proofs.reports.names_before.Goals as goal

pub returns-else-has_deletion : goal.returns-else-has_deletion
returns-else-has_deletion c =
    λ new. lines_untold (name_at c.new.result) (name_in (doc_seen c.args.old.now)) new c.args.changes.now
    (sym c.has_deletion.ensures ∙ c.if-has_deletion.false)
