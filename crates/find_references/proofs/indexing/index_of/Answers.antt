use Rattle.find_references.proofs.IndexSteps.{indexes_all}
use Rattle.find_references.proofs.indexing.index_of.Goals as goal

pub returns : goal.returns
returns c = indexes_all _ _ _ _ c.new-index.ensures.empty c.in_ok-add_group.ensures
