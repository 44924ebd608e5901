use Rattle.std.proofs.Common.{◌<◌, ◌+◌, length, arith}
use Rattle.tree_edits.proofs.MovedUp.{moved_all, moved_next, moved_none}
use Rattle.tree_edits.proofs.cutting.move_up.Goals as goal

pub loop-at-init : goal.loop-at-init
loop-at-init c = moved_none c.args.history.now c.args.by

pub loop-at-preserved : goal.loop-at-preserved
loop-at-preserved c =
    let test = c.loop-at-test.true in
    let len = c.len.ensures in
    let less : c.args.by + c.loop-at.at < length c.args.history.now = omega (arith, test, len) in
    moved_next c.args.history.now c.args.by c.loop-at.at c.loop-at.history c.swap.new.self less c.swap.ensures c.loop-at.invariant

pub returns-clause-len : goal.returns-clause-len
returns-clause-len c = c.loop-at.invariant.len

pub returns-clause-moved : goal.returns-clause-moved
returns-clause-moved c =
    let test = c.loop-at-test.false in
    let len = c.len.ensures in
    moved_all c.args.history.now c.args.by c.loop-at.at c.loop-at.history c.requires (omega (arith, test, len)) c.loop-at.invariant
