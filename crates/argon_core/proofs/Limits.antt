-- How large the memory is within the limits.
use Rattle.std.proofs.Common.{ℕ, ◌+◌, ◌*◌, ◌/◌, ◌<◌, ◌≤◌, arith}
use Rattle.std.proofs.Math.Nat.{mul-div-le, le-div_iff_mul-le, mul-le-mul_right}
use Rattle.argon_core.specs.Argon2.{IsWithinLimits, lane_len, memory_len, segment_len}
use Rattle.argon_core.specs.Memory.{place_in}
use Rattle.argon_core.specs.declared.params.ArgonParams.{ArgonParams}

-- a slice has two columns or more
pub segment_len-least : (p : ArgonParams) → IsWithinLimits p → 2 ≤ segment_len p
unfolding segment_len
segment_len-least p h =
    let lanes : 0 < 4 * p.lanes = omega (arith, h.some_lanes) in
    (le-div_iff_mul-le {k = 4 * p.lanes} {x = 2} {y = p.kib} lanes).1 (omega (arith, h.enough_memory))

-- the memory has no more blocks than were asked for
pub memory_len-most : (p : ArgonParams) → IsWithinLimits p → memory_len p ≤ 1048576
unfolding segment_len
memory_len-most p h =
    let all : 4 * p.lanes * (p.kib / (4 * p.lanes)) ≤ p.kib = mul-div-le p.kib (4 * p.lanes) in
    omega (arith, all, h.little_memory)

-- nor has a lane
pub lane_len-most : (p : ArgonParams) → IsWithinLimits p → lane_len p ≤ 1048576
lane_len-most p h =
    let one : 1 * (4 * segment_len p) ≤ p.lanes * (4 * segment_len p) = mul-le-mul_right (4 * segment_len p) h.some_lanes in
    omega (arith, one, memory_len-most p h)

-- the columns of some of the first three slices, and those of one more
pub some_slices-most : (p : ArgonParams) → IsWithinLimits p → (n : ℕ) → n ≤ 3 → n * segment_len p + segment_len p ≤ 1048576
some_slices-most p h n few =
    let three : n * segment_len p ≤ 3 * segment_len p = mul-le-mul_right (segment_len p) few in
    omega (arith, three, lane_len-most p h)

-- the columns of some slices are two or more
pub some_slices-least : (p : ArgonParams) → IsWithinLimits p → (n : ℕ) → 0 < n → 2 ≤ n * segment_len p
some_slices-least p h n some =
    let one : 1 * segment_len p ≤ n * segment_len p = mul-le-mul_right (segment_len p) some in
    omega (arith, one, segment_len-least p h)

-- a lane and a column stand in the memory
pub place_in-within : (p : ArgonParams) (lane column : ℕ) → lane < p.lanes → column < lane_len p → place_in p lane column < memory_len p
place_in-within p lane column low short =
    let next : lane + 1 ≤ p.lanes = omega arith in
    let all : (lane + 1) * (4 * segment_len p) ≤ p.lanes * (4 * segment_len p) = mul-le-mul_right (4 * segment_len p) next in
    omega (arith, all)
