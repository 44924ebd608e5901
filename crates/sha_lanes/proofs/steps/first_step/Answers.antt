use Rattle.std.proofs.Common.{refl, sym}
use Rattle.sha2.proofs.Schedule256.{rounds_first}
use Rattle.sha_lanes.specs.Lanes.{lane, state_lane}
use Rattle.sha_lanes.proofs.LaneLemmas.{slice_index-lane}
use Rattle.sha_lanes.proofs.steps.first_step.Goals as goal

pub returns : goal.returns
returns c = λ j b h below window held.
    let w = c.args.w.now in
    rounds_first b h (lane w j) (state_lane c.args.v j) c.args.t _ _ _ c.requires window held refl (sym (slice_index-lane w j c.args.t))
    (c.round.ensures j below)
