use Rattle.cli_importing.proofs.Refused.{safe_stop_for}
use Rattle.cli_importing.proofs.sources.safe_stop.Goals as goal

pub returns-clause-stop : goal.returns-clause-stop
returns-clause-stop c =
    safe_stop_for c.args.fail c.refused.result c.args.name.now c.safe_answer.result c.safe_answer.ensures.is c.in_default.not-NoMemory c.refused.ensures
