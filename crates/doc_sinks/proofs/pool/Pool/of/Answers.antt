use Rattle.doc_sinks.proofs.GatheredPairs.{gathered_all}
use Rattle.doc_sinks.proofs.pool.Pool.of.Goals as goal

pub invariant_of-result : goal.invariant_of-result
invariant_of-result c = (gathered_all _ _ _ _ _ c.new-numbers.ensures.empty c.new-items.ensures c.in_ok-gather_group.ensures).numbers

pub returns : goal.returns
returns c = (gathered_all _ _ _ _ _ c.new-numbers.ensures.empty c.new-items.ensures c.in_ok-gather_group.ensures).pool
