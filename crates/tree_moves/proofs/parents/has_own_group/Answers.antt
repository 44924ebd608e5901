use Rattle.std.proofs.Common.{◌∙◌, sym}
use Rattle.tree_moves.proofs.GroupParents.{own_here, own_later}
use Rattle.tree_moves.proofs.parents.has_own_group.Goals as goal

pub returns-then-is_same : goal.returns-then-is_same
returns-then-is_same c =
    own_here c.args.id c.args.groups.now c.loop-group.group-index c.group-item.result c.loop-group-test.true c.group-item.is (sym c.is_same.ensures ∙ c.if-is_same.true) c.loop-group.invariant

pub loop-group-preserved : goal.loop-group-preserved
loop-group-preserved c =
    own_later c.args.id c.args.groups.now c.loop-group.group-index c.group-item.result c.loop-group-test.true c.group-item.is (sym c.is_same.ensures ∙ c.if-is_same.false) c.loop-group.invariant
