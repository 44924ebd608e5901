use Rattle.sha2.specs.Sha256.{rounds}
use Rattle.sha_lanes.proofs.steps.first_steps.Goals as goal

pub returns : goal.returns
unfolding rounds
returns c = λ j b h below window held.
    let s1 = c.four_first_steps-v.ensures j b h below window held in
    let s2 = c.four_first_steps-v-2.ensures j b h below window s1 in
    let s3 = c.four_first_steps-v-3.ensures j b h below window s2 in
    (window, c.four_first_steps.ensures j b h below window s3)
