use Rattle.std.proofs.Common.{◌≡◌, ◌<◌, ℕ, List, [], ◌∷◌, slice_index, slice_index_or, arith}
use Rattle.std.specs.Int.{bit_at}
use Rattle.aes_slices.specs.Slices.{cell_bit}
use Rattle.aes_slices.specs.Packing.{crossed_place}
use Rattle.aes_slices.proofs.BitLemmas.{from_table, below_eight}
use Rattle.aes_slices.proofs.PackingLemmas.{bits_low, bits_high}
use Rattle.aes_slices.proofs.packing.cross_bits.Goals as goal

pub returns : goal.returns
returns c j l b block lane bit =
    let at : ℕ → ℕ = λ v. slice_index (slice_index_or c.args.s v []) l in
    let byte : (v : ℕ) → v < 8 → at v < 256 = λ v h. c.are_bytes.ensures.bytes v l h lane in
    let source : ℕ → ℕ → ℕ = λ v i. cell_bit c.args.s (crossed_place 1 i v) l (crossed_place 1 v i) in
    let result : List (List ℕ) =
    c.swap_bits.result.0 ∷ c.swap_bits.result.1 ∷ c.swap_bits-2.result.0 ∷ c.swap_bits-2.result.1
    ∷ c.swap_bits-3.result.0 ∷ c.swap_bits-3.result.1 ∷ c.swap_bits-4.result.0 ∷ c.swap_bits-4.result.1 ∷ [] in
    below_eight (λ v. (i : ℕ) → i < 8 → cell_bit result i l v ≡ source v i)
    (from_table 0 (bit_at (slice_index c.swap_bits.result.0 l)) (source 0) 8
    (bits_low (at 0) (at 1) _ (c.swap_bits.ensures.low l lane) (byte 0 (omega arith)) (byte 1 (omega arith))))
    (from_table 0 (bit_at (slice_index c.swap_bits.result.1 l)) (source 1) 8
    (bits_high (at 0) (at 1) _ (c.swap_bits.ensures.high l lane) (byte 0 (omega arith)) (byte 1 (omega arith))))
    (from_table 0 (bit_at (slice_index c.swap_bits-2.result.0 l)) (source 2) 8
    (bits_low (at 2) (at 3) _ (c.swap_bits-2.ensures.low l lane) (byte 2 (omega arith)) (byte 3 (omega arith))))
    (from_table 0 (bit_at (slice_index c.swap_bits-2.result.1 l)) (source 3) 8
    (bits_high (at 2) (at 3) _ (c.swap_bits-2.ensures.high l lane) (byte 2 (omega arith)) (byte 3 (omega arith))))
    (from_table 0 (bit_at (slice_index c.swap_bits-3.result.0 l)) (source 4) 8
    (bits_low (at 4) (at 5) _ (c.swap_bits-3.ensures.low l lane) (byte 4 (omega arith)) (byte 5 (omega arith))))
    (from_table 0 (bit_at (slice_index c.swap_bits-3.result.1 l)) (source 5) 8
    (bits_high (at 4) (at 5) _ (c.swap_bits-3.ensures.high l lane) (byte 4 (omega arith)) (byte 5 (omega arith))))
    (from_table 0 (bit_at (slice_index c.swap_bits-4.result.0 l)) (source 6) 8
    (bits_low (at 6) (at 7) _ (c.swap_bits-4.ensures.low l lane) (byte 6 (omega arith)) (byte 7 (omega arith))))
    (from_table 0 (bit_at (slice_index c.swap_bits-4.result.1 l)) (source 7) 8
    (bits_high (at 6) (at 7) _ (c.swap_bits-4.ensures.high l lane) (byte 6 (omega arith)) (byte 7 (omega arith))))
    b bit j block
