use Rattle.cli_needs.specs.SeenNeeds.{needs_seen}
use Rattle.call_input.proofs.Opened.{before_attached}
use Rattle.call_input.proofs.opening.open_for.Goals as goal

pub returns-in-Attached-clause-cause : goal.returns-in-Attached-clause-cause
returns-in-Attached-clause-cause g c =
    before_attached c.open.result c.args.command.now c.in-Attached._source.now (needs_seen c.needs_of-needs.result) _ _ _ _
    c.in-Attached.ensures c.needs_of-needs.ensures c.open.ensures.cause
