use Rattle.std.proofs.Common.{refl}
use Rattle.sha2.specs.Sha256.{hash_after}
use Rattle.sha_lanes.proofs.LaneLemmas.{below_four}
use Rattle.sha_lanes.proofs.four.first_states.Goals as goal

pub returns : goal.returns
unfolding hash_after
returns c = below_four _
    (record { whole = refl; state = refl }) (record { whole = refl; state = refl })
    (record { whole = refl; state = refl }) (record { whole = refl; state = refl })
