use Rattle.std.proofs.Common.{ℕ, List, ◌*◌, ◌/◌, ◌%◌, ◌^◌, ◌-◌, refl, bit_and, bit_or}
use Rattle.std.specs.Simd.Lanes.{zip2}
use Rattle.aes_slices.specs.Circuits.{sixteen_times}
use Rattle.aes_slices.specs.Packing.{swapped_low, swapped_high}
use Rattle.aes_slices.proofs.PackingLemmas.{lanes_of_two}
use Rattle.aes_slices.proofs.packing.swap_bits.Goals as goal

abbrev lower : List ℕ → List ℕ
lower x = zip2 bit_and x (sixteen_times 0x55)

pub returns-clause-low : goal.returns-clause-low
returns-clause-low c =
    lanes_of_two (λ x y. zip2 bit_or (lower x) (zip2 (λ a n. a * 2 ^ n % 2 ^ 8) (lower y) (sixteen_times 1))) (swapped_low 1 0x55) (λ a b. refl)
    c.args.x c.args.y c.fits-x.0 c.fits-y.0

pub returns-clause-high : goal.returns-clause-high
returns-clause-high c =
    lanes_of_two (λ x y. zip2 bit_or (lower (zip2 (λ a n. a / 2 ^ n) x (sixteen_times 1))) (zip2 bit_and y (sixteen_times (255 - 0x55)))) (swapped_high 1 0x55)
    (λ a b. refl) c.args.x c.args.y c.fits-x.0 c.fits-y.0
