use Rattle.std.proofs.Common.{refl}
use Rattle.argon_core.specs.Blake2b.{state_after}
use Rattle.argon_core.proofs.blake.Hasher.new.Goals as goal

pub returns-clause-holds : goal.returns-clause-holds
unfolding state_after
returns-clause-holds c = record { counted = refl; whole = refl; state = refl; last = refl }
