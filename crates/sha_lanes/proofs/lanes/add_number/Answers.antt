use Rattle.sha_lanes.proofs.LaneLemmas.{sums_with_number}
use Rattle.sha_lanes.proofs.lanes.add_number.Goals as goal

pub returns : goal.returns
returns c = sums_with_number c.args.number c.args.a c.fits-a.0
