use Rattle.change_laws.proofs.Changed.{commands_grow, merges_merge}
use Rattle.change_laws.proofs.laws.changes.Goals as goal

pub returns-clause-grown : goal.returns-clause-grown
returns-clause-grown c = commands_grow

pub returns-clause-merged : goal.returns-clause-merged
returns-clause-merged c = merges_merge
