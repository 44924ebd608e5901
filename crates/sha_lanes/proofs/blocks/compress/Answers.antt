use Rattle.std.proofs.Common.{◌≡◌, ◌*◌, ◌∙◌, ap, arith, refl}
use Rattle.sha2.specs.Sha256.{add_state, compress}
use Rattle.sha_lanes.specs.Lanes.{one_of, state_lane}
use Rattle.sha_lanes.proofs.blocks.compress.Goals as goal

pub turns-init : goal.turns-init
turns-init c j below =
    c.first_steps-v.ensures j (one_of c.args.a.now c.args.b.now c.args.c.now c.args.d.now j) (state_lane c.args.states.now j) below
    (c.load-w.ensures j below) refl

pub turns-preserved : goal.turns-preserved
turns-preserved c j below =
    c.sixteen_steps-v.ensures j (one_of c.args.a.now c.args.b.now c.args.c.now c.args.d.now j) (state_lane c.args.states.now j) below
    (c.turns.invariant j below)

pub returns : goal.returns
unfolding compress
returns c j below =
    let done : 16 * c.turns.turn ≡ 64 = omega (arith, c.turns.auto.turn-end (omega arith)) in
    c.sums.ensures j below ∙ ap (add_state (state_lane c.args.states.now j)) (rw done at (c.turns.invariant j below).1)
