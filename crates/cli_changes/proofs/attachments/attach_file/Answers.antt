use Rattle.cli_changes.specs.Attachments.{after_attach_command}
use Rattle.cli_changes.proofs.Stopped.{stopped_by_name}
use Rattle.cli_changes.proofs.attachments.attach_file.Goals as goal

pub returns-in-Err-clause-told : goal.returns-in-Err-clause-told
unfolding after_attach_command
returns-in-Err-clause-told c =
    (stopped_by_name _ c.in-Err.fail c.args.given.file.now _ _ c.unchanged_by.result _ c.in-Err.ensures.1 c.unchanged_by.ensures.is, c.in-Err.ensures.0)
