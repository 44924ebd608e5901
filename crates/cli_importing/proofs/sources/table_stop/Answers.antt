use Rattle.cli_importing.proofs.Refused.{table_stop_for}
use Rattle.cli_importing.proofs.sources.table_stop.Goals as goal

pub returns-clause-stop : goal.returns-clause-stop
returns-clause-stop c =
    table_stop_for c.args.fail c.refused.result c.args.name.now c.table_answer.result c.table_answer.ensures.is c.in_default.not-NoMemory c.refused.ensures
