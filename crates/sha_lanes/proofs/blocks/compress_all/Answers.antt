use Rattle.std.proofs.Common.{◌≡◌, ◌<◌, ◌*◌, ◌∙◌, ℕ, List, take, drop, ap₂, arith, refl, add-one}
use Rattle.sha2.specs.Sha256.{compress, hash_after}
use Rattle.sha_lanes.specs.Lanes.{one_of}
use Rattle.sha_lanes.proofs.LaneLemmas.{one_of-parts}
use Rattle.sha_lanes.proofs.blocks.compress_all.Goals as goal

-- the block of each message
block_of : (a b c d : List ℕ) (i k j : ℕ) → k ≡ 64 → j < 4
    → one_of (take k (drop (64 * i) a)) (take k (drop (64 * i) b)) (take k (drop (64 * i) c)) (take k (drop (64 * i) d)) j
    ≡ take 64 (drop (i * 64) (one_of a b c d j))
block_of a b c d i k j count below =
    let at : 64 * i ≡ i * 64 = omega arith in
    rw (count, at) (one_of-parts (λ m. take 64 (drop (i * 64) m)) a b c d j below)

pub each-init : goal.each-init
unfolding hash_after
each-init c j below = refl

pub each-preserved : goal.each-preserved
unfolding hash_after
each-preserved c j below =
    c.compress.ensures j below
    ∙ ap₂ compress (c.each.invariant j below)
    (block_of c.args.a.now c.args.b.now c.args.c.now c.args.d.now c.each.i _ j (omega arith) below)
    ∙ rw add-one refl
