use Rattle.std.proofs.Common.{◌∙◌, sym}
use Rattle.vault_model.specs.SeenNodes.{tree_seen}
use Rattle.tree_core.specs.Changes.{level_of}
use Rattle.tree_groups.proofs.Heights.{left_below, level_found}
use Rattle.tree_groups.proofs.levels.+levels_below.Goals as goal

pub returns-then-has_group : goal.returns-then-has_group
returns-then-has_group t c =
    left_below c.levels_below.result c.args.levels (level_of c.args.id (tree_seen c.args.group.now)) (level_of c.args.id (tree_seen c.child-item.result)) c.if-levels-eq0.false
    (level_found c.args.id c.args.group.now c.child-item.result c.as_slice-child-items.result.now c.loop-child.child-index (sym c.is_same.ensures ∙ c.if-is_same.false) c.as_slice-child-items.ensures
    c.loop-child-test.true c.child-item.is c.loop-child.invariant (sym c.has_group.ensures ∙ c.if-has_group.true))
    c.levels_below.ensures
