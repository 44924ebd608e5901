use Rattle.cli_needs.specs.Needs.{exported_to, file_written, target_of}
use Rattle.call_run.proofs.Carried.{named_so, plain_stop}
use Rattle.call_run.proofs.carrying.write_change.Goals as goal

pub returns-else-change-clause-cause : goal.returns-else-change-clause-cause
returns-else-change-clause-cause g c =
    plain_stop c.write_attachment.result _ _ _ _
    (c.write_attachment.ensures.cause (file_written c.args.command.now)
    (named_so c.exported_to.result (exported_to c.args.command.now) (target_of c.args.command.now) c.exported_to.ensures))
