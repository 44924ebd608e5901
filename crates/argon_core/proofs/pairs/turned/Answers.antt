use Rattle.std.specs.Int.{w64}
use Rattle.std.proofs.lemmas.Simd.{below_from_Fits}
use Rattle.argon_core.proofs.TurnLemmas.{turn_ok, words_turned}
use Rattle.argon_core.proofs.pairs.turned.Goals as goal

pub swizzle : goal.swizzle
swizzle c = turn_ok c.args.k c.args.turn c.requires c.fits-turn.0

pub returns : goal.returns
returns c = words_turned c.args.k c.args.turn c.args.x c.requires c.fits-turn.0 c.fits-x.0 (below_from_Fits w64 c.args.x c.fits-x.1)
