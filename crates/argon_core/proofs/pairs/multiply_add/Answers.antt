use Rattle.argon_core.proofs.PairLemmas.{products_added}
use Rattle.argon_core.proofs.pairs.multiply_add.Goals as goal

pub returns : goal.returns
returns c = products_added c.args.a c.args.b c.fits-a.0 c.fits-b.0
