-- What is read to fill a place was filled before.
use Rattle.std.proofs.Common.{◌≡◌, ◌≢◌, ℕ, ◌+◌, ◌-◌, ◌*◌, ◌/◌, ◌%◌, ◌^◌, ◌<◌, ◌≤◌, ◌==◌, ◌&&◌, inl, inr, if◌then◌else◌, Bool, true, false, refl, sym, ap, ◌∙◌, arith, eq-eqb}
use Rattle.std.proofs.lemmas.Bool.{cases_lt, eqb-true}
use Rattle.std.proofs.lemmas.Bool.Decides.{nat_tests}
use Rattle.std.proofs.lemmas.Nat.{div-mul-add}
use Rattle.std.proofs.Math.Nat.{mul-le-mul_right, mod-eq_of_lt, mod-lt, div-add-mod', div-lt_iff_lt-mul}
use Rattle.argon_core.specs.Argon2.{IsWithinLimits, chosen_place, column_before, lane_len, memory_len, offset_of, other_column, other_lane, segment_len}
use Rattle.argon_core.specs.declared.params.ArgonParams.{ArgonParams}
use Rattle.argon_core.proofs.Limits.{segment_len-least, some_slices-least}
use Rattle.argon_core.proofs.Times.{earlier_slice, mod-mul-add, place_in_pass}

-- the slice of a column
pub slice_below : (s c n : ℕ) → 0 < s → c < n * s → c / s < n
slice_below s c n some low = (div-lt_iff_lt-mul some).1 low

-- when a place is filled in a pass, by its slice, its lane and its place in the segment
pub offset_at : (p : ArgonParams) (slice lane place : ℕ) → place < segment_len p
    → offset_of p lane (slice * segment_len p + place) ≡ (slice * p.lanes + lane) * segment_len p + place
offset_at p slice lane place low = rw (div-mul-add slice (segment_len p) place low, mod-mul-add slice (segment_len p) place low) refl

-- a pass has room for each place
pub offset_in_pass : (p : ArgonParams) → IsWithinLimits p → (lane column : ℕ) → lane < p.lanes → column < lane_len p → offset_of p lane column < memory_len p
offset_in_pass p h lane column low short =
    let s = segment_len p in
    let some : 0 < s = omega (arith, segment_len-least p h) in
    place_in_pass p.lanes s (column / s) lane (column % s) (slice_below s column 4 some short) low (mod-lt column some)

-- in a lane an earlier column comes first
pub offset_rises : (p : ArgonParams) → IsWithinLimits p → (lane c d : ℕ) → lane < p.lanes → c < d → offset_of p lane c < offset_of p lane d
offset_rises p h lane c d low less =
    let s = segment_len p in
    let some : 0 < s = omega (arith, segment_len-least p h) in
    let at_c : c / s * s + c % s ≡ c = div-add-mod' c s in
    let at_d : d / s * s + d % s ≡ d = div-add-mod' d s in
    let low_c : c % s < s = mod-lt c some in
    let low_d : d % s < s = mod-lt d some in
    elim (cases_lt (c / s) (d / s)) [
      | inl slice ↦ earlier_slice p.lanes s (c / s) lane (c % s) (d / s) lane (d % s) slice low low_c
      | inr other ↦ elim (cases_lt (d / s) (c / s)) [
        | inl back ↦
            let next : (d / s + 1) * s ≤ c / s * s = mul-le-mul_right s (omega arith) in
            absurd (omega (arith, next))
        | inr back ↦
            let same : c / s ≡ d / s = omega arith in
            let places : c % s < d % s = omega (arith, ap (λ (k : ℕ). k * s) same) in
            rw same (omega arith)
      ]
    ]

-- a place that is chosen is in the window
pub chosen_place-lt : (len chooser : ℕ) → 0 < len → chosen_place len chooser < len
chosen_place-lt len chooser some = omega arith

-- the other lane is a lane
pub other_lane-lt : (p : ArgonParams) (pass slice lane chooser : ℕ) → lane < p.lanes → other_lane p pass slice lane chooser < p.lanes
other_lane-lt p pass slice lane chooser low =
    elim ((pass == 0) && (slice == 0)) as (λ b. (if b then lane else chooser / 2 ^ 32 % p.lanes) < p.lanes) [
      | true ↦ low
      | false ↦ mod-lt (chooser / 2 ^ 32) (omega arith)
    ]

-- the column before is a column
pub column_before-lt : (p : ArgonParams) (column : ℕ) → column < lane_len p → column_before p column < lane_len p
column_before-lt p column low = grind (arith, nat_tests)

-- a column that is not the first has the one before it
pub column_before_later : (p : ArgonParams) (column : ℕ) → 0 < column → column_before p column ≡ column - 1
column_before_later p column some = grind (arith, nat_tests)

-- the other column is a column
pub other_column-lt : (p : ArgonParams) → IsWithinLimits p → (pass slice place chooser : ℕ) (is_own : Bool) → other_column p pass slice place is_own chooser < lane_len p
other_column-lt p h pass slice place chooser is_own = mod-lt _ (omega (arith, segment_len-least p h))

-- the other column of a place of the first pass: in the own lane it comes before the column
own_column : (p : ArgonParams) (slice place chooser : ℕ) → slice < 4 → place < segment_len p → 2 ≤ slice * segment_len p + place
    → other_column p 0 slice place true chooser < slice * segment_len p + place
own_column p slice place chooser low short later =
    let s = segment_len p in
    let window : ℕ = slice * s + place - 1 in
    let three : slice * s ≤ 3 * s = mul-le-mul_right s (omega arith) in
    let chosen : chosen_place window chooser < window = chosen_place-lt window chooser (omega arith) in
    let at : (0 + chosen_place window chooser) % (4 * s) ≡ 0 + chosen_place window chooser = mod-eq_of_lt (omega (arith, three, chosen)) in
    rw at (omega (arith, chosen))

-- in another lane it is in a slice that is finished
finished_column : (p : ArgonParams) → IsWithinLimits p → (slice place chooser : ℕ) → slice < 4 → 0 < slice
    → other_column p 0 slice place false chooser < slice * segment_len p
finished_column p h slice place chooser low later =
    let s = segment_len p in
    let window : ℕ = slice * s - (if place == 0 then 1 else 0) in
    let least : 2 ≤ slice * s = some_slices-least p h slice later in
    let three : slice * s ≤ 3 * s = mul-le-mul_right s (omega arith) in
    let gap : (if place == 0 then 1 else 0) ≤ 1 = grind (arith, nat_tests) in
    let chosen : chosen_place window chooser < window = chosen_place-lt window chooser (omega arith) in
    let at : (0 + chosen_place window chooser) % (4 * s) ≡ 0 + chosen_place window chooser = mod-eq_of_lt (omega (arith, three, chosen)) in
    rw at (omega (arith, chosen))

-- in the first slice of the first pass the other lane is the own lane
own_lane : (p : ArgonParams) (slice lane chooser : ℕ) → slice ≡ 0 → other_lane p 0 slice lane chooser ≡ lane
own_lane p slice lane chooser first = rw first refl

-- in the first pass the other place was filled before
other_in_first_pass : (p : ArgonParams) → IsWithinLimits p → (slice lane place l chooser : ℕ) (is_own : Bool) → slice < 4 → lane < p.lanes → place < segment_len p
    → 2 ≤ slice * segment_len p + place → l < p.lanes → (l == lane) ≡ is_own → (slice ≡ 0 → l ≡ lane)
    → offset_of p l (other_column p 0 slice place is_own chooser) < (slice * p.lanes + lane) * segment_len p + place
other_in_first_pass p h slice lane place l chooser true low lanes short later fits own first =
    let same : l ≡ lane = eqb-true l lane own in
    let before = own_column p slice place chooser low short later in
    let less = offset_rises p h lane (other_column p 0 slice place true chooser) (slice * segment_len p + place) lanes before in
    rw same (rw (offset_at p slice lane place short) at less)
other_in_first_pass p h slice lane place l chooser false low lanes short later fits own first =
    let s = segment_len p in
    let c = other_column p 0 slice place false chooser in
    let some : 0 < s = omega (arith, segment_len-least p h) in
    let ne : l ≢ lane = λ e. let both : false ≡ true = sym own ∙ eq-eqb l lane e in cc in
    let slices : 0 < slice = elim (cases_lt 0 slice) [
      | inl later_slice ↦ later_slice
      | inr none ↦ let zero_slice : slice ≡ 0 = omega arith in absurd (ne (first zero_slice))
    ] in
    let before : c < slice * s = finished_column p h slice place chooser low slices in
    earlier_slice p.lanes s (c / s) l (c % s) slice lane place (slice_below s c slice some before) fits (mod-lt c some)

-- in each pass the other place was filled before
pub other_filled : (p : ArgonParams) → IsWithinLimits p → (pass slice lane place chooser : ℕ) → slice < 4 → lane < p.lanes → place < segment_len p
    → (pass ≡ 0 → 2 ≤ slice * segment_len p + place)
    → offset_of p (other_lane p pass slice lane chooser) (other_column p pass slice place (other_lane p pass slice lane chooser == lane) chooser)
    < pass * memory_len p + ((slice * p.lanes + lane) * segment_len p + place)
other_filled p h pass slice lane place chooser low lanes short later =
    let l = other_lane p pass slice lane chooser in
    let fits : l < p.lanes = other_lane-lt p pass slice lane chooser lanes in
    elim (cases_lt 0 pass) [
      | inl again ↦
          let full = offset_in_pass p h l (other_column p pass slice place (l == lane) chooser) fits (other_column-lt p h pass slice place chooser (l == lane)) in
          let passes : 1 * memory_len p ≤ pass * memory_len p = mul-le-mul_right (memory_len p) again in
          omega (arith, full, passes)
      | inr none ↦
          let first : pass ≡ 0 = omega arith in
          let lane_fits : other_lane p 0 slice lane chooser < p.lanes = other_lane-lt p 0 slice lane chooser lanes in
          let before = other_in_first_pass p h slice lane place (other_lane p 0 slice lane chooser) chooser (other_lane p 0 slice lane chooser == lane) low lanes short (later first) lane_fits refl (own_lane p slice lane chooser) in
          rw first (omega (arith, before))
    ]

-- so was the column before
pub before_filled : (p : ArgonParams) → IsWithinLimits p → (pass slice lane place : ℕ) → slice < 4 → lane < p.lanes → place < segment_len p
    → (pass ≡ 0 → 2 ≤ slice * segment_len p + place)
    → offset_of p lane (column_before p (slice * segment_len p + place)) < pass * memory_len p + ((slice * p.lanes + lane) * segment_len p + place)
before_filled p h pass slice lane place low lanes short later =
    let s = segment_len p in
    let column : ℕ = slice * s + place in
    let three : slice * s ≤ 3 * s = mul-le-mul_right s (omega arith) in
    elim (cases_lt 0 pass) [
      | inl again ↦
          let full = offset_in_pass p h lane (column_before p column) lanes (column_before-lt p column (omega (arith, three))) in
          let passes : 1 * memory_len p ≤ pass * memory_len p = mul-le-mul_right (memory_len p) again in
          omega (arith, full, passes)
      | inr none ↦
          let first : pass ≡ 0 = omega arith in
          let some : 2 ≤ column = later first in
          let less = offset_rises p h lane (column - 1) column lanes (omega arith) in
          let before = rw (offset_at p slice lane place short) at less in
          rw (column_before_later p column (omega arith)) (omega (arith, before))
    ]

-- and the place itself in the pass before
pub own_filled : (p : ArgonParams) → IsWithinLimits p → (pass slice lane place : ℕ) → slice < 4 → lane < p.lanes → place < segment_len p → 0 < pass
    → offset_of p lane (slice * segment_len p + place) < pass * memory_len p + ((slice * p.lanes + lane) * segment_len p + place)
own_filled p h pass slice lane place low lanes short again =
    let full = place_in_pass p.lanes (segment_len p) slice lane place low lanes short in
    let passes : 1 * memory_len p ≤ pass * memory_len p = mul-le-mul_right (memory_len p) again in
    rw (offset_at p slice lane place short) (omega (arith, full, passes))
