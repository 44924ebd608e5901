use Rattle.std.proofs.Common.{ap, sym, is_some}
use Rattle.doc_sinks.proofs.GatheredPairs.{number_missing}
use Rattle.doc_sinks.proofs.pool.Pool.number_of.Goals as goal

pub returns-in-None-clause-number : goal.returns-in-None-clause-number
returns-in-None-clause-number c =
    number_missing c.self.inside.numbers _ c.of.result _ _ _ c.of.ensures.pair c.self.invariant (ap is_some (sym c.in-None.ensures.value)) c.len.ensures (sym c.self.view_is)
