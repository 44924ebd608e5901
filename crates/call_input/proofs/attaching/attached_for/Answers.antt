use Rattle.call_input.proofs.Opened.{at_attached, file_attached, file_refused}
use Rattle.call_input.proofs.attaching.attached_for.Goals as goal

pub returns-in-Ok-clause-told : goal.returns-in-Ok-clause-told
returns-in-Ok-clause-told g c = λ m is.
    file_attached c.args.command.now c.in-Attached.source.now m c.in-Ok.bytes.value.bytes c.in-Attached.ensures (c.in-Ok.ensures.told m is)

pub returns-in-Err-clause-told : goal.returns-in-Err-clause-told
returns-in-Err-clause-told g c = λ m is.
    file_refused c.in-Err.stop c.args.command.now c.in-Attached.source.now m c.in-Attached.ensures (c.in-Err.ensures.told m is)

pub returns-in-Err-clause-cause : goal.returns-in-Err-clause-cause
returns-in-Err-clause-cause g c =
    at_attached c.in-Err.stop c.args.command.now c.in-Attached.source.now _ _ _ _ c.in-Attached.ensures c.in-Err.ensures.cause
