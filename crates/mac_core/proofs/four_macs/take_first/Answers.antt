use Rattle.std.proofs.Common.{◌≡◌, ℕ, List, ◌+◌, ◌++◌, ◌∙◌, ap, subst, arith}
use Rattle.mac_core.specs.FourMacs.{first_bytes}
use Rattle.sha_lanes.specs.Hashing.{HasTaken}
use Rattle.sha_lanes.specs.Lanes.{one_of}
use Rattle.sha_lanes.proofs.LaneLemmas.{below_four}
use Rattle.mac_core.proofs.four_macs.take_first.Goals as goal

pub returns : goal.returns
returns c j message below taken =
    let a = c.args.a.now in
    let same : c.args.index ≡ c.args.index + 0 = omega arith in
    let each = below_four (λ j.
    one_of c.first_bytes-first.result c.first_bytes-second.result c.first_bytes-third.result c.first_bytes-fourth.result j
    ≡ first_bytes (c.args.index + j) (one_of a c.args.b.now c.args.c.now c.args.d.now j))
    (c.first_bytes-first.ensures ∙ ap (λ i. first_bytes i a) same) c.first_bytes-second.ensures c.first_bytes-third.ensures c.first_bytes-fourth.ensures
    j below in
    subst (λ (first : List ℕ). HasTaken c.take_blocks.new.states j (message ++ first)) each (c.take_blocks.ensures j message below taken)
