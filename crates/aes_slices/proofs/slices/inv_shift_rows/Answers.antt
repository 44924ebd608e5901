use Rattle.std.proofs.Common.{◌+◌, ◌-◌, ◌*◌, ◌/◌, ◌%◌}
use Rattle.aes_slices.proofs.BitLemmas.{below_eight}
use Rattle.aes_slices.proofs.SliceLemmas.{cell_moved}
use Rattle.aes_slices.proofs.slices.inv_shift_rows.Goals as goal

pub returns : goal.returns
returns c j l block lane =
    cell_moved c.args.s _ j l (4 * (l / 4) + (l % 4 + 4 - l / 4) % 4) (below_eight _
    (c.turned_back.ensures l lane)
    (c.turned_back-2.ensures l lane)
    (c.turned_back-3.ensures l lane)
    (c.turned_back-4.ensures l lane)
    (c.turned_back-5.ensures l lane)
    (c.turned_back-6.ensures l lane)
    (c.turned_back-7.ensures l lane)
    (c.turned_back-8.ensures l lane))
