use Rattle.settled_laws.proofs.OwnTree.{shape_is_all}
use Rattle.settled_laws.proofs.Rising.{settled_means}
use Rattle.settled_laws.proofs.Settled.{merged_with_itself}
use Rattle.settled_laws.proofs.laws.settled.Goals as goal

pub returns-clause-shape : goal.returns-clause-shape
returns-clause-shape c = shape_is_all

pub returns-clause-means : goal.returns-clause-means
returns-clause-means c = settled_means

pub returns-clause-merged : goal.returns-clause-merged
returns-clause-merged c = merged_with_itself
