use Rattle.argon_core.proofs.PairLemmas.{shifts_rotate}
use Rattle.argon_core.proofs.pairs.turned_by_63.Goals as goal

pub returns : goal.returns
returns c = shifts_rotate c.args.x c.fits-x.0
