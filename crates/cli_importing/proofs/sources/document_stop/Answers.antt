use Rattle.cli_importing.proofs.Refused.{document_stop_for}
use Rattle.cli_importing.proofs.sources.document_stop.Goals as goal

pub returns-clause-stop : goal.returns-clause-stop
returns-clause-stop c =
    document_stop_for c.args.fail c.refused.result c.args.name.now c.document_answer.result c.document_answer.ensures.is c.in_default.not-NoMemory c.refused.ensures
