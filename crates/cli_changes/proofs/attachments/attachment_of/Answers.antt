use Rattle.std.proofs.Common.{inl}
use Rattle.cli_changes.proofs.Stopped.{stopped_by_name}
use Rattle.cli_changes.proofs.attachments.attachment_of.Goals as goal

pub returns-in-Err-clause-told : goal.returns-in-Err-clause-told
returns-in-Err-clause-told c =
    stopped_by_name _ c.in-Err.fail c.args.file.now _ _ c.unchanged_by.result _ (inl c.in-Err.ensures) c.unchanged_by.ensures.is
