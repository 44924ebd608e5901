use Rattle.std.proofs.Common.{◌∙◌, ap, sym}
use Rattle.std.specs.Prelude.{nat_le}
use Rattle.vault_model.specs.SeenNodes.{tree_seen}
use Rattle.vault_model.specs.Tree.{height}
use Rattle.tree_moves.proofs.AfterGroupMove.{time_deep, time_into, time_is}
use Rattle.tree_moves.proofs.moving_groups.time_of_move.Goals as goal

pub returns-then-has_group : goal.returns-then-has_group
returns-then-has_group c = time_into c.args.to c.args.moving.now c.args.now (tree_seen c.args.root.now) (sym c.has_group.ensures ∙ c.if-has_group.true)

pub returns-then-not-fits : goal.returns-then-not-fits
returns-then-not-fits c =
    time_deep c.args.to c.args.moving.now c.args.now (tree_seen c.args.root.now) (sym c.has_group.ensures ∙ c.if-has_group.false) c.levels_below.result c.levels_below.ensures
    (ap (nat_le (height (tree_seen c.args.moving.now))) (sym c.unwrap_or-below.ensures) ∙ sym c.fits.ensures ∙ c.if-not-fits.true)

pub returns : goal.returns
returns c =
    time_is c.args.to c.args.moving.now c.args.now (tree_seen c.args.root.now) (sym c.has_group.ensures ∙ c.if-has_group.false) c.levels_below.result c.levels_below.ensures
    (ap (nat_le (height (tree_seen c.args.moving.now))) (sym c.unwrap_or-below.ensures) ∙ sym c.fits.ensures ∙ c.if-not-fits.false) c.time_after.result c.time_after.ensures
