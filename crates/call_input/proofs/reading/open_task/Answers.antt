use Rattle.std.proofs.Common.{[], ◌∙◌, ap, option_map, Ok}
use Rattle.outside_core.specs.Reports.{reported}
use Rattle.outside_core.proofs.Reports.{reported_before}
use Rattle.cli_resealing.specs.CliDatabases.SeenOpened.{databases_seen}
use Rattle.cli_resealing.proofs.CliFiles.FileStops.{later_at_files}
use Rattle.cli_lines.specs.SeenLines.{lines_seen}
use Rattle.cli_needs.specs.Needs.{files_named}
use Rattle.call_input.proofs.ReadTasks.{attached_refused, databases_refused, opened_is}
use Rattle.call_input.proofs.reading.open_task.Goals as goal

pub returns-in-Err-clause-told : goal.returns-in-Err-clause-told
returns-in-Err-clause-told g c = λ m is.
    databases_refused c.in-Err.stop c.args.command (lines_seen c.args.lines) c.args.now m (c.in-Err.ensures.told m is)

pub returns-in-Ok-attached_for-clause-told : goal.returns-in-Ok-attached_for-clause-told
returns-in-Ok-attached_for-clause-told g c = λ m is.
    opened_is c.args.command (lines_seen c.args.lines) c.args.now m (databases_seen c.in-Ok.databases)
    (option_map (λ bytes. bytes.value.bytes) c.in-Ok-attached_for.attached)
    (c.in-Ok.ensures.told m (reported_before _ _ _ m c.in-Ok-attached_for.ensures.leaves.truthful is))
    (c.in-Ok-attached_for.ensures.told m (ap (reported _) c.in-Ok.ensures.files ∙ is))

pub returns-in-Err-attached_for-clause-told : goal.returns-in-Err-attached_for-clause-told
returns-in-Err-attached_for-clause-told g c = λ m is.
    attached_refused c.in-Err-attached_for.stop c.args.command (lines_seen c.args.lines) c.args.now m (databases_seen c.in-Ok.databases)
    (c.in-Ok.ensures.told m (reported_before _ _ _ m c.in-Err-attached_for.ensures.leaves.truthful is))
    (c.in-Err-attached_for.ensures.told m (ap (reported _) c.in-Ok.ensures.files ∙ is))

pub returns-in-Err-attached_for-clause-cause : goal.returns-in-Err-attached_for-clause-cause
returns-in-Err-attached_for-clause-cause g c =
    later_at_files [] (files_named (Ok c.args.command)) _ _ _ _ _ _ c.in-Err-attached_for.stop c.in-Ok.ensures.faults c.in-Ok.ensures.absences
    c.in-Err-attached_for.ensures.cause
