use Rattle.merge_twins.specs.Rules.{rules_of}
use Rattle.merge_twins.proofs.Growing.{entries_more, grown}
use Rattle.merge_twins.proofs.entries.put_entries.Goals as goal

pub loop-number-preserved : goal.loop-number-preserved
loop-number-preserved c =
    grown _ _ _ _ _ _ c.in_ok-put_entry.ensures c.loop-number.invariant (entries_more (rules_of c.args.which) c.loop-number.number c.args.group)
