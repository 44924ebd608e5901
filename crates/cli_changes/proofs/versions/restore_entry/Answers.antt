use Rattle.cli_changes.specs.Versions.{after_restore_command}
use Rattle.cli_changes.proofs.Stopped.{stopped}
use Rattle.cli_changes.proofs.versions.restore_entry.Goals as goal

pub returns-in-Err-clause-told : goal.returns-in-Err-clause-told
unfolding after_restore_command
returns-in-Err-clause-told c =
    (stopped _ c.in-Err.fail c.args.given.file.now c.unchanged.result _ c.in-Err.ensures.1 c.unchanged.ensures.is, c.in-Err.ensures.0)
