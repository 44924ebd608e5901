use Rattle.cli_importing.proofs.Refused.{bitwarden_stop_for}
use Rattle.cli_importing.proofs.sources.bitwarden_stop.Goals as goal

pub returns-clause-stop : goal.returns-clause-stop
returns-clause-stop c =
    bitwarden_stop_for c.args.fail c.refused.result c.args.name.now c.bitwarden_answer.result c.bitwarden_answer.ensures.is c.in_default.not-NoMemory c.refused.ensures
