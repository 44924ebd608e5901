use Rattle.cli_options.proofs.Beginning.{begins}
use Rattle.cli_causes.proofs.causes.command_cause.Goals as goal

pub returns : goal.returns
returns c =
    let start = c.empty_state-state.ensures in
    let none = begins c.no_texts-given.result c.empty_state-state.result c.no_texts-given.ensures start.repeated start.due start.ended start.positions in
    rw none at c.cause_from-cause.ensures
