use Rattle.std.proofs.Common.{◌≡◌, ◌<◌, sym, ◌∙◌, ap, arith, Some}
use Rattle.std.specs.Option.{option_copied}
use Rattle.std.specs.Prelude.{option_map, slice_get}
use Rattle.vault_model.specs.SeenNodes.{tree_seen}
use Rattle.vault_model.specs.Tree.{height}
use Rattle.vault_model.specs.declared.nodes.Group.{out-Group}
use Rattle.tree_steps.proofs.InPlace.{group_below, group_none, lower, none_below}
use Rattle.tree_steps.proofs.searches.+group_of.Goals as goal

pub returns-in_err-at : goal.returns-in_err-at
returns-in_err-at t c =
    ap (option_map (λ found. tree_seen found.now)) c.from_residual.ensures
    ∙ sym (group_none c.args.id c.args.group.now (sym c.is_same.ensures ∙ c.if-is_same.false) (sym c.way_to.ensures ∙ c.in_err-at.was))

pub returns-in_err-get : goal.returns-in_err-get
returns-in_err-get t c =
    none_below c.args.id c.args.group.now c.in_ok-at.at (sym c.way_to.ensures ∙ c.in_ok-at.was) (sym c.get.ensures ∙ ap option_copied c.in_err-get.was)

pub group_of-requires : goal.group_of-requires
group_of-requires t c =
    let is : slice_get (out-Group c.args.group.now).groups c.in_ok-at.at ≡ Some c.in_ok-get.field-0.now = sym c.get.ensures ∙ ap option_copied c.in_ok-get.was in
    let d : height (tree_seen c.args.group.now) ≡ t = c.decreases in
    let below = lower c.args.group.now c.in_ok-at.at c.in_ok-get.field-0.now is in
    let falls : height (tree_seen c.in_ok-get.field-0.now) < t = omega (arith, d, below) in
    (falls, tt)

pub returns : goal.returns
returns t c =
    let is : slice_get (out-Group c.args.group.now).groups c.in_ok-at.at ≡ Some c.in_ok-get.field-0.now = sym c.get.ensures ∙ ap option_copied c.in_ok-get.was in
    c.group_of.ensures
    ∙ group_below c.args.id c.args.group.now c.in_ok-at.at c.in_ok-get.field-0.now (sym c.is_same.ensures ∙ c.if-is_same.false) (sym c.way_to.ensures ∙ c.in_ok-at.was) is
