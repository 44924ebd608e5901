use Rattle.std.proofs.Common.{◌||◌, ◌+◌, List, drop, map, sym, ap, ◌∙◌}
use Rattle.vault_model.specs.SeenNodes.{tree_seen}
use Rattle.vault_model.specs.Tree.{all_trees}
use Rattle.vault_model.specs.declared.nodes.Group.{Group}
use Rattle.tree_core.specs.Changes.{have_group}
use Rattle.tree_steps.proofs.Steps.{drop_next}
use Rattle.tree_steps.proofs.searches.+has_group.Goals as goal

pub loop-child-preserved : goal.loop-child-preserved
loop-child-preserved t c =
    let items = c.as_slice-child-items.result.now in
    let i = c.loop-child.child-index in
    sym (ap (λ (gs : List Group). have_group c.args.id (all_trees (map tree_seen gs))) (drop_next items i c.child-item.result c.loop-child-test.true c.child-item.is)
    ∙ ap (λ b. b || have_group c.args.id (all_trees (map tree_seen (drop (i + 1) items)))) (sym c.has_group.ensures ∙ c.if-has_group.false))
    ∙ c.loop-child.invariant
