use Rattle.std.proofs.Common.{◌∙◌, sym, ap, is_some, List}
use Rattle.vault_model.specs.declared.nodes.Group.{Group}
use Rattle.tree_core.specs.Changes.{own_group}
use Rattle.tree_steps.proofs.InPlace.{trees}
use Rattle.tree_moves.proofs.GroupParents.{parent_below, parent_here, parent_nowhere}
use Rattle.tree_moves.proofs.parents.+parent_of.Goals as goal

pub returns-then-has_own_group : goal.returns-then-has_own_group
returns-then-has_own_group t c =
    parent_here c.args.id c.args.group.now
    (ap (λ (gs : List Group). is_some (own_group c.args.id (trees gs))) (sym c.as_slice.ensures) ∙ sym c.has_own_group.ensures ∙ c.if-has_own_group.true)

pub returns-in-Some : goal.returns-in-Some
returns-in-Some t c =
    let own = ap (λ (gs : List Group). is_some (own_group c.args.id (trees gs))) (sym c.as_slice.ensures) ∙ sym c.has_own_group.ensures ∙ c.if-has_own_group.false in
    parent_below c.args.id c.in-Some.found c.args.group.now c.child-item.result c.as_slice-child-items.result.now c.loop-child.child-index own c.as_slice-child-items.ensures
    c.loop-child-test.true c.child-item.is c.loop-child.invariant (sym c.parent_of.ensures ∙ c.in-Some.is)

pub returns : goal.returns
returns t c =
    let own = ap (λ (gs : List Group). is_some (own_group c.args.id (trees gs))) (sym c.as_slice.ensures) ∙ sym c.has_own_group.ensures ∙ c.if-has_own_group.false in
    parent_nowhere c.args.id c.args.group.now c.as_slice-child-items.result.now c.loop-child.child-index own c.as_slice-child-items.ensures c.loop-child-test.false c.loop-child.invariant
