use Rattle.merge_twins.specs.Rules.{rules_of}
use Rattle.merge_twins.proofs.Growing.{grown, tombs_more}
use Rattle.merge_twins.proofs.making.put_tombs.Goals as goal

pub loop-number-preserved : goal.loop-number-preserved
loop-number-preserved c =
    grown _ _ _ _ _ _ c.in_ok-put_tomb.ensures c.loop-number.invariant (tombs_more (rules_of c.args.which) c.loop-number.number)
