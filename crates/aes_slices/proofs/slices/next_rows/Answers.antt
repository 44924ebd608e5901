use Rattle.std.proofs.Common.{◌+◌, ◌%◌}
use Rattle.aes_slices.proofs.BitLemmas.{below_eight}
use Rattle.aes_slices.proofs.SliceLemmas.{cell_moved}
use Rattle.aes_slices.proofs.slices.next_rows.Goals as goal

pub returns : goal.returns
returns c j l block lane =
    cell_moved c.args.s _ j l ((l + 4) % 16) (below_eight _
    (c.next_row.ensures l lane)
    (c.next_row-2.ensures l lane)
    (c.next_row-3.ensures l lane)
    (c.next_row-4.ensures l lane)
    (c.next_row-5.ensures l lane)
    (c.next_row-6.ensures l lane)
    (c.next_row-7.ensures l lane)
    (c.next_row-8.ensures l lane))
