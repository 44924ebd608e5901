use Rattle.std.proofs.Common.{◌≤◌, ◌-◌, length, sym, ap, arith}
use Rattle.std.proofs.lemmas.List.{take_all}
use Rattle.tree_edits.proofs.MovedUp.{prefix_last, prefix_next, prefix_some}
use Rattle.tree_edits.proofs.cutting.cut_end.Goals as goal

pub loop-count-init : goal.loop-count-init
loop-count-init c =
    let all : length c.args.history.now ≤ length c.args.history.now - 0 = omega arith in
    sym (take_all (length c.args.history.now - 0) c.args.history.now all)

pub remove-requires : goal.remove-requires
remove-requires c =
    let some = prefix_some c.args.history.now c.loop-count.history c.loop-count._count c.args.excess c.loop-count-test.true c.requires c.loop-count.invariant in
    let len = c.len-last.ensures in
    omega (arith, some, len)

pub loop-count-preserved : goal.loop-count-preserved
loop-count-preserved c =
    let test = c.loop-count-test.true in
    let most = c.requires in
    prefix_next c.args.history.now c.loop-count.history c.remove.new.self c.loop-count._count _ (omega (arith, test, most)) c.loop-count.invariant (ap (λ n. n - 1) c.len-last.ensures) c.remove.ensures.rest

pub returns : goal.returns
returns c =
    prefix_last c.args.history.now c.loop-count.history c.loop-count._count c.args.excess c.loop-count.auto._count-end c.loop-count-test.false c.loop-count.invariant
