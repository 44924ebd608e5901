use Rattle.tree_removals.proofs.Burials.{groups_done, groups_next}
use Rattle.tree_removals.proofs.burying.+bury_groups.Goals as goal

pub loop-child-preserved : goal.loop-child-preserved
loop-child-preserved t c =
    groups_next c.args.now c.push.new.self.items c.loop-child.tombs.items c.bury_groups.new.tombs.items c.as_slice-child-items.result.now c.loop-child.child-index c.child-item.result
    c.loop-child-test.true c.child-item.is c.loop-child.invariant c.in_ok-bury_groups.ensures

pub returns : goal.returns
returns t c =
    groups_done c.args.now c.args.group.now c.later.result c.args.tombs.now.items c.push.new.self.items c.loop-child.tombs.items c.as_slice-child-items.result.now c.loop-child.child-index
    c.later.ensures c.in_ok-push.ensures.items c.loop-child-test.false c.as_slice-child-items.ensures c.loop-child.invariant
