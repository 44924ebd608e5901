use Rattle.cli_sessions.proofs.OfSession.{over}
use Rattle.cli_sessions.proofs.lines.read_command.Goals as goal

pub returns-in-Ok-clause-of_session : goal.returns-in-Ok-clause-of_session
returns-in-Ok-clause-of_session c =
    let is = over c.args.access.now c.args.file.now c.args.words.now c.in-Ok.command c.in-Ok.ensures in
    record { kind = is.kind; database = is.database; opening = is.opening }

pub returns-in-Ok-clause-has_profile : goal.returns-in-Ok-clause-has_profile
returns-in-Ok-clause-has_profile c =
    (over c.args.access.now c.args.file.now c.args.words.now c.in-Ok.command c.in-Ok.ensures).profile
