-- All of a list.
use Rattle.std.proofs.Common.{◌≡◌, ◌-◌, ◌≤◌, ℕ, List, length, arith}
use Rattle.std.proofs.lemmas.List.{take_all}
use Rattle.std.specs.List.{slice_range}

pub whole_range : (bs : List ℕ) (n : ℕ) → n ≡ length bs → slice_range bs 0 n ≡ bs
whole_range bs n all =
    let far : length bs ≤ n - 0 = omega (arith, all) in
    take_all (n - 0) bs far
