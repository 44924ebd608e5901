-- Each step keeps every replica's database the join of what it has learned.
use Rattle.merge_core.proofs.ScheduleLaws.{learned_join, learned_same}
use Rattle.merge_core.proofs.laws.schedules.Goals as goal

pub returns-clause-learned : goal.returns-clause-learned
returns-clause-learned c n S docs done rest a steps f i = learned_join n S a docs done rest steps f i

pub returns-clause-same : goal.returns-clause-same
returns-clause-same c n S docs done rest a steps f i j to from = learned_same n S a docs done rest steps f i j to from
