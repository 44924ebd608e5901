use Rattle.tree_removals.proofs.Burials.{entries_done, entries_next}
use Rattle.tree_removals.proofs.burying.+bury_entries.Goals as goal

pub loop-child-preserved : goal.loop-child-preserved
loop-child-preserved t c =
    entries_next c.args.now c.bury_own_entries.new.tombs.items c.loop-child.tombs.items c.bury_entries.new.tombs.items c.as_slice-child-items.result.now c.loop-child.child-index
    c.child-item.result c.loop-child-test.true c.child-item.is c.loop-child.invariant c.in_ok-bury_entries.ensures

pub returns : goal.returns
returns t c =
    entries_done c.args.now c.args.group.now c.as_slice.result.now c.args.tombs.now.items c.bury_own_entries.new.tombs.items c.loop-child.tombs.items c.as_slice-child-items.result.now
    c.loop-child.child-index c.as_slice.ensures c.in_ok-bury_own_entries.ensures c.loop-child-test.false c.as_slice-child-items.ensures c.loop-child.invariant
