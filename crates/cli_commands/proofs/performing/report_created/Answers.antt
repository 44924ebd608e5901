use Rattle.vault_model.specs.SeenDoc.{doc_seen}
use Rattle.cli_commands.specs.Commands.{created_change}
use Rattle.cli_commands.proofs.RootIds.{stops_alike}
use Rattle.cli_commands.proofs.performing.report_created.Goals as goal

pub returns-in-Err-clause-told : goal.returns-in-Err-clause-told
returns-in-Err-clause-told c =
    stops_alike c.in-Err.stop _ (created_change c.args.quiet c.args.id (doc_seen c.args.doc.now)) (c.in-Err.ensures.told (doc_seen c.args.doc.now))
