use Rattle.std.proofs.Common.{ℕ, ◌<◌, ◌∙◌, arith}
use Rattle.aes_slices.specs.Slices.{cell_bit}
use Rattle.aes_slices.specs.Packing.{crossed_place}
use Rattle.aes_slices.proofs.PackingLemmas.{crossed_thrice}
use Rattle.aes_slices.proofs.packing.exchange.Goals as goal

pub returns : goal.returns
returns c j l b block lane bit =
    let j1 : ℕ = crossed_place 4 j b in
    let b1 : ℕ = crossed_place 4 b j in
    let j1_block : j1 < 8 = omega arith in
    let b1_bit : b1 < 8 = omega arith in
    c.cross_halves.ensures j l b block lane bit
    ∙ c.cross_pairs.ensures j1 l b1 j1_block lane b1_bit
    ∙ c.cross_bits.ensures (crossed_place 2 j1 b1) l (crossed_place 2 b1 j1) (omega arith) lane (omega arith)
    ∙ (λ i. cell_bit c.args.s (crossed_thrice j block b bit i) l (crossed_thrice b bit j block i))
