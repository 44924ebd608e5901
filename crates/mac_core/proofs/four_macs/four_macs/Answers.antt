use Rattle.std.proofs.Common.{◌≡◌, ℕ, List, ◌+◌, ◌<◌, ◌≤◌, [], ◌++◌, ◌∙◌, length, slice_index_or, refl, ap, arith}
use Rattle.sha2.specs.Sha256.{sha256}
use Rattle.mac_core.specs.FourMacs.{first_bytes}
use Rattle.mac_core.proofs.FourMacSteps.{count_inner, count_outer, mac-parts, xored_key}
use Rattle.sha_lanes.specs.Lanes.{one_of}
use Rattle.sha_lanes.proofs.LaneLemmas.{below_four, length-one_of, one_of-rests}
use Rattle.mac_core.proofs.four_macs.four_macs.Goals as goal

-- one of the four rows of a list
one_row : (rows : List (List ℕ)) (j : ℕ) → j < 4
    → one_of (slice_index_or rows 0 []) (slice_index_or rows 1 []) (slice_index_or rows 2 []) (slice_index_or rows 3 []) j ≡ slice_index_or rows j []
one_row rows = below_four _ refl refl refl refl

pub returns : goal.returns
returns c j below =
    let a = c.args.a.now in
    let base = c.args.base.now in
    let i = c.args.index + j in
    let x = one_of a c.args.b.now c.args.c.now c.args.d.now j in
    let long : length x ≡ length a = length-one_of (length a) a c.args.b.now c.args.c.now c.args.d.now c.requires.lengths j below in
    let enough : 52 ≤ length x = omega (arith, c.requires.long, long) in
    let pads = c.take_pads.ensures j [] below (c.first_states-inner.ensures j below) in
    let first = c.take_first.ensures j (xored_key base i 0x36) below pads in
    let inner = c.finish-found.ensures j (xored_key base i 0x36 ++ first_bytes i x) below first (count_inner base x i 0x36 enough)
    ∙ ap (λ (y : List ℕ). sha256 ((xored_key base i 0x36 ++ first_bytes i x) ++ y)) (one_of-rests a c.args.b.now c.args.c.now c.args.d.now 52 j below) in
    let pads_2 = c.take_pads-2.ensures j [] below (c.first_states-outer.ensures j below) in
    let outer = c.finish.ensures j (xored_key base i 0x5c) below pads_2 (count_outer base i 0x5c)
    ∙ ap (λ (y : List ℕ). sha256 (xored_key base i 0x5c ++ y)) (one_row c.finish-found.result j below) in
    mac-parts base x _ _ i inner outer
