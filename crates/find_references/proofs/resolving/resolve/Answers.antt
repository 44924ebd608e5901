use Rattle.find_references.proofs.IndexSteps.{no_indexes}
use Rattle.find_references.proofs.resolving.resolve.Goals as goal

pub add_resolved-requires : goal.add_resolved-requires
add_resolved-requires c = no_indexes _ _ c.new.ensures.empty
