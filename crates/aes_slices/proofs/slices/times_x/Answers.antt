use Rattle.aes_slices.proofs.SliceLemmas.{cell_doubled}
use Rattle.aes_slices.proofs.slices.times_x.Goals as goal

pub returns : goal.returns
returns c j l block lane = cell_doubled c.args.s c.are_whole.ensures j l block lane _ c.double.ensures
