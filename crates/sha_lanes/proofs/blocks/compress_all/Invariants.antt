use Rattle.std.proofs.Common.{◌≡◌, ℕ, ◌<◌}
use Rattle.sha2.specs.Sha256.{hash_after}
use Rattle.sha_lanes.specs.Lanes.{one_of, state_lane}
use Rattle.sha_lanes.proofs.blocks.compress_all.Given as goal

abbrev pub invariant-each : goal.invariant-each
invariant-each l = (j : ℕ) → j < 4
    → state_lane l.states j ≡ hash_after (state_lane l.fn.states j) (one_of l.a l.b l.c l.d j) l.i
