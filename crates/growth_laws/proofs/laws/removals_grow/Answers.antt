use Rattle.growth_laws.proofs.Commands.{remove_entry_grows}
use Rattle.growth_laws.proofs.GroupCommands.{remove_group_grows}
use Rattle.growth_laws.proofs.laws.removals_grow.Goals as goal

pub returns-clause-remove_entry : goal.returns-clause-remove_entry
returns-clause-remove_entry c = remove_entry_grows

pub returns-clause-remove_group : goal.returns-clause-remove_group
returns-clause-remove_group c = remove_group_grows
