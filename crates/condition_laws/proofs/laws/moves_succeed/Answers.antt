use Rattle.condition_laws.proofs.Succeeds.{move_entry_succeeds, move_group_succeeds}
use Rattle.condition_laws.proofs.laws.moves_succeed.Goals as goal

pub returns-clause-entry : goal.returns-clause-entry
returns-clause-entry c = move_entry_succeeds

pub returns-clause-group : goal.returns-clause-group
returns-clause-group c = move_group_succeeds
