use Rattle.std.proofs.Common.{ℕ, ◌*◌, ◌<◌}
use Rattle.sha2.specs.Sha256.{IsRoundsAt}
use Rattle.sha_lanes.specs.Lanes.{lane, one_of, state_lane}
use Rattle.sha_lanes.proofs.blocks.compress.Given as goal

abbrev pub invariant-turns : goal.invariant-turns
invariant-turns l = (j : ℕ) → j < 4
    → IsRoundsAt (one_of l.a l.b l.c l.d j) (state_lane l.states j) (lane l.w j) (state_lane l.v j) (16 * l.turn)
