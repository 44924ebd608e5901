use Rattle.condition_laws.proofs.Succeeds.{add_succeeds, make_group_succeeds}
use Rattle.condition_laws.proofs.laws.new_nodes_succeed.Goals as goal

pub returns-clause-add : goal.returns-clause-add
returns-clause-add c = add_succeeds

pub returns-clause-make_group : goal.returns-clause-make_group
returns-clause-make_group c = make_group_succeeds
