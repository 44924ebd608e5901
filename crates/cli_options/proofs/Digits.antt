-- Numbers of few digits are small.
use Rattle.std.proofs.Common.{ℕ, suc, ◌+◌, ◌*◌, ◌<◌, ◌≤◌, ◌^◌, arith}
use Rattle.std.proofs.Math.Nat.{pow-le-pow_right, pow-suc}

-- A digit after a number of fewer than 19 digits makes one of 64 bits.
pub one_more : (number index most : ℕ) → number < 10 ^ index → index < most → most ≤ 19 → number * 10 + 9 < 18446744073709551616
one_more number index most small inside few =
    let within : suc index ≤ 19 = omega (arith, inside, few) in
    let bound : 10 ^ (suc index) ≤ 10 ^ 19 = pow-le-pow_right (omega arith) within in
    omega (arith, small, bound, pow-suc 10 index)
