use Rattle.condition_laws.proofs.Succeeds.{remove_entry_succeeds, remove_group_succeeds}
use Rattle.condition_laws.proofs.laws.removals_succeed.Goals as goal

pub returns-clause-entry : goal.returns-clause-entry
returns-clause-entry c = remove_entry_succeeds

pub returns-clause-group : goal.returns-clause-group
returns-clause-group c = remove_group_succeeds
