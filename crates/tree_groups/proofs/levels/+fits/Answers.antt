use Rattle.std.proofs.Common.{◌∙◌, sym}
use Rattle.tree_groups.proofs.Heights.{fits_all, fits_next, fits_not}
use Rattle.tree_groups.proofs.levels.+fits.Goals as goal

pub returns-then-not-fits : goal.returns-then-not-fits
returns-then-not-fits t c =
    fits_not c.args.group.now c.as_slice-child-items.result.now c.loop-child.child-index c.args.levels c.as_slice-child-items.ensures c.if-levels-eq0.false c.loop-child.invariant
    c.child-item.result c.loop-child-test.true c.child-item.is (sym c.if-not-fits.true ∙ c.fits.ensures)

pub loop-child-preserved : goal.loop-child-preserved
loop-child-preserved t c =
    fits_next c.args.group.now c.as_slice-child-items.result.now c.loop-child.child-index c.args.levels c.as_slice-child-items.ensures c.if-levels-eq0.false c.loop-child.invariant
    c.child-item.result c.loop-child-test.true c.child-item.is (sym c.if-not-fits.false ∙ c.fits.ensures)

pub returns : goal.returns
returns t c =
    fits_all c.args.group.now c.as_slice-child-items.result.now c.loop-child.child-index c.args.levels c.as_slice-child-items.ensures c.if-levels-eq0.false c.loop-child.invariant
    c.loop-child-test.false
