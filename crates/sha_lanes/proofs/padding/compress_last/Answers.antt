use Rattle.std.proofs.Common.{◌≡◌, ◌/◌, ◌∙◌, length, arith, ap, ap₂, sym}
use Rattle.sha2.specs.Sha256.{hash_after}
use Rattle.sha_lanes.specs.Hashing.{last_blocks}
use Rattle.sha_lanes.specs.Lanes.{one_of, state_lane}
use Rattle.sha_lanes.proofs.ChainLemmas.{last-blocks, length-last}
use Rattle.sha_lanes.proofs.LaneLemmas.{length-one_of, one_of-parts}
use Rattle.sha_lanes.proofs.padding.compress_last.Goals as goal

pub returns : goal.returns
returns c j below =
    let a = c.args.a.now in
    let b = c.args.b.now in
    let d = c.args.c.now in
    let e = c.args.d.now in
    let at = c.field_place-at.result in
    let place = c.field_place-at.ensures.short in
    let one = last-blocks a _ c.args.bits at (omega arith) place c.padded-a.ensures in
    let two = last-blocks b _ c.args.bits at (omega arith) (omega arith) c.padded-b.ensures in
    let three = last-blocks d _ c.args.bits at (omega arith) (omega arith) c.padded-c.ensures in
    let four = last-blocks e _ c.args.bits at (omega arith) (omega arith) c.padded-d.ensures in
    let x = one_of a b d e j in
    let long : length a ≡ length x = sym (length-one_of (length a) a b d e c.requires.lengths j below) in
    let blocks = (λ i. one_of (one i) (two i) (three i) (four i) j) ∙ one_of-parts (λ m. last_blocks m c.args.bits) a b d e j below in
    c.compress_all.ensures j below
    ∙ ap₂ (hash_after (state_lane c.args.states.now j)) blocks (ap (λ m. length m / 64) one ∙ ap (λ n. n / 64) (length-last a x c.args.bits long))
