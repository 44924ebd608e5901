-- The memory after one more block.
use Rattle.std.proofs.Common.{◌≡◌, ◌≢◌, ℕ, zero, suc, ◌+◌, ◌-◌, ◌*◌, ◌/◌, ◌%◌, ◌<◌, ◌≤◌, ◌==◌, inl, inr, List, [], ◌∷◌, ◌++◌, length, slice_index_or, slice_set, refl, sym, ap, ◌∙◌, arith, length-append}
use Rattle.std.proofs.lemmas.Bool.{cases_lt}
use Rattle.std.proofs.lemmas.Bool.Decides.{nat_tests, eqb_tells}
use Rattle.std.proofs.lemmas.List.{get_or_append_left, get_or-append_right, get_or-set_other, get_or-set_same, length-set}
use Rattle.std.proofs.lemmas.Nat.{div-mul-add}
use Rattle.std.proofs.Math.Nat.{mul-le-mul_right, div-add-mod', mod-lt}
use Rattle.argon_core.specs.Argon2.{IsWithinLimits, blocks, chooser_of, column_before, lane_len, lane_of, latest, memory_len, mixed_from, next_from, offset_of, other_column, other_lane, pass_of, place_of, segment_len, slice_of}
use Rattle.argon_core.specs.Memory.{HoldsBlocks, place_in, seen_in}
use Rattle.argon_core.specs.declared.params.ArgonParams.{ArgonParams}
use Rattle.argon_core.specs.declared.params.Instance.{Instance}
use Rattle.argon_core.proofs.EarlierPlaces.{before_filled, column_before-lt, offset_at, offset_in_pass, other_column-lt, other_filled, other_lane-lt, own_filled}
use Rattle.argon_core.proofs.Limits.{place_in-within, segment_len-least}
use Rattle.argon_core.proofs.Mixing.{next_first, next_mixed}
use Rattle.argon_core.proofs.Times.{latest_at, latest_elsewhere, latest_here, mod-mul-add, place_in_pass}

-- two memories that show the same wherever it is read, mixed to the same block
mixed_same : (i : Instance) (seen other : ℕ → ℕ → List ℕ) (pass slice lane place : ℕ)
    → ((l c : ℕ) → l < i.params.lanes → c < lane_len i.params
    → offset_of i.params l c < pass * memory_len i.params + ((slice * i.params.lanes + lane) * segment_len i.params + place) → seen l c ≡ other l c)
    → IsWithinLimits i.params → slice < 4 → lane < i.params.lanes → place < segment_len i.params → (pass ≡ 0 → 2 ≤ slice * segment_len i.params + place)
    → mixed_from i seen pass slice lane place ≡ mixed_from i other pass slice lane place
unfolding mixed_from
mixed_same i seen other pass slice lane place same h low lanes short later =
    let p = i.params in
    let s = segment_len p in
    let column : ℕ = slice * s + place in
    let three : slice * s ≤ 3 * s = mul-le-mul_right s (omega arith) in
    let fits : column < lane_len p = omega (arith, three) in
    let before : seen lane (column_before p column) ≡ other lane (column_before p column) =
    same lane (column_before p column) lanes (column_before-lt p column fits) (before_filled p h pass slice lane place low lanes short later) in
    let chooser = chooser_of i (other lane (column_before p column)) pass slice lane place in
    let l = other_lane p pass slice lane chooser in
    let c = other_column p pass slice place (l == lane) chooser in
    let chosen : seen l c ≡ other l c =
    same l c (other_lane-lt p pass slice lane chooser lanes) (other_column-lt p h pass slice place chooser (l == lane)) (other_filled p h pass slice lane place chooser low lanes short later) in
    elim (eqb_tells pass 0) [
      | inl first ↦ rw (before, chosen, first.0) refl
      | inr again ↦
          let own : seen lane column ≡ other lane column = same lane column lanes fits (own_filled p h pass slice lane place low lanes short (omega (arith, again.1))) in
          rw (before, chosen, own) refl
    ]

-- the same of whichever block comes next
next_same : (i : Instance) (seen other : ℕ → ℕ → List ℕ) (pass slice lane place : ℕ)
    → ((l c : ℕ) → l < i.params.lanes → c < lane_len i.params
    → offset_of i.params l c < pass * memory_len i.params + ((slice * i.params.lanes + lane) * segment_len i.params + place) → seen l c ≡ other l c)
    → IsWithinLimits i.params → slice < 4 → lane < i.params.lanes → place < segment_len i.params
    → next_from i seen pass slice lane place ≡ next_from i other pass slice lane place
next_same i seen other pass slice lane place same h low lanes short =
    let column : ℕ = slice * segment_len i.params + place in
    elim (cases_lt 0 pass) [
      | inl again ↦
          next_mixed i seen pass slice lane place (λ first. absurd (omega arith))
          ∙ mixed_same i seen other pass slice lane place same h low lanes short (λ first. absurd (omega arith))
          ∙ sym (next_mixed i other pass slice lane place (λ first. absurd (omega arith)))
      | inr none ↦ elim (cases_lt column 2) [
        | inl early ↦
            next_first i seen pass slice lane place (omega arith) early
            ∙ sym (next_first i other pass slice lane place (omega arith) early)
        | inr later ↦
            next_mixed i seen pass slice lane place (λ first. later)
            ∙ mixed_same i seen other pass slice lane place same h low lanes short (λ first. later)
            ∙ sym (next_mixed i other pass slice lane place (λ first. later))
      ]
    ]

-- the first n blocks are n
length-blocks : (i : Instance) (n : ℕ) → length (blocks i n) ≡ n
unfolding blocks
length-blocks i zero = refl
length-blocks i (suc n) = omega (arith, length-append (blocks i n) (blocks-last i n ∷ []), length-blocks i n)
  where
    blocks-last : Instance → ℕ → List ℕ
    blocks-last i n = next_from i (λ (lane column : ℕ). slice_index_or (blocks i n) (latest i.params n lane column) [])
        (pass_of i.params n) (slice_of i.params n) (lane_of i.params n) (place_of i.params n)

blocks_next : (i : Instance) (n : ℕ) → blocks i (n + 1)
    ≡ blocks i n ++ next_from i (λ (lane column : ℕ). slice_index_or (blocks i n) (latest i.params n lane column) [])
    (pass_of i.params n) (slice_of i.params n) (lane_of i.params n) (place_of i.params n) ∷ []
unfolding blocks
blocks_next i n =
    let next : n + 1 ≡ suc n = omega arith in
    ap (λ (k : ℕ). blocks i k) next

-- a block that was there is there after one more
pub older_block : (i : Instance) (n t : ℕ) → t < n → slice_index_or (blocks i (n + 1)) t [] ≡ slice_index_or (blocks i n) t []
older_block i n t low =
    rw (blocks_next i n) (get_or_append_left (blocks i n) _ [] t (omega (arith, length-blocks i n)))

-- the newest block
newest_block : (i : Instance) (n : ℕ) → slice_index_or (blocks i (n + 1)) n []
    ≡ next_from i (λ (lane column : ℕ). slice_index_or (blocks i n) (latest i.params n lane column) [])
    (pass_of i.params n) (slice_of i.params n) (lane_of i.params n) (place_of i.params n)
newest_block i n =
    let self : n - n ≡ 0 = omega arith in
    rw (blocks_next i n) (get_or-append_right (blocks i n) _ n n [] (length-blocks i n) (omega arith) ∙ rw self refl)

-- the number of a block has the digits pass, slice, lane and place
digits : (p : ArgonParams) (pass slice lane place n : ℕ) → slice < 4 → lane < p.lanes → place < segment_len p
    → n ≡ pass * memory_len p + ((slice * p.lanes + lane) * segment_len p + place)
    → (pass_of p n ≡ pass) × (slice_of p n ≡ slice) × (lane_of p n ≡ lane) × (place_of p n ≡ place)
digits p pass slice lane place n low lanes short e =
    let s = segment_len p in
    let r : ℕ = (slice * p.lanes + lane) * s + place in
    let fits : r < memory_len p = place_in_pass p.lanes s slice lane place low lanes short in
    let rest : n % memory_len p ≡ r = rw e (mod-mul-add pass (memory_len p) r fits) in
    let row : r / s ≡ slice * p.lanes + lane = div-mul-add (slice * p.lanes + lane) s place short in (
      rw e (div-mul-add pass (memory_len p) r fits),
      rw (rest, row) (div-mul-add slice p.lanes lane lanes),
      rw (rest, row) (mod-mul-add slice p.lanes lane lanes),
      rw rest (mod-mul-add (slice * p.lanes + lane) s place short),
    )

-- two places with one offset are one place
same_place : (p : ArgonParams) → IsWithinLimits p → (slice lane place l c : ℕ) → lane < p.lanes → place < segment_len p → l < p.lanes
    → offset_of p l c ≡ (slice * p.lanes + lane) * segment_len p + place → (l ≡ lane) × (c ≡ slice * segment_len p + place)
same_place p h slice lane place l c lanes short low e =
    let s = segment_len p in
    let some : 0 < s = omega (arith, segment_len-least p h) in
    let c_low : c % s < s = mod-lt c some in
    let row : c / s * p.lanes + l ≡ slice * p.lanes + lane =
    sym (div-mul-add (c / s * p.lanes + l) s (c % s) c_low) ∙ ap (λ (k : ℕ). k / s) e ∙ div-mul-add (slice * p.lanes + lane) s place short in
    let at : c % s ≡ place =
    sym (mod-mul-add (c / s * p.lanes + l) s (c % s) c_low) ∙ ap (λ (k : ℕ). k % s) e ∙ mod-mul-add (slice * p.lanes + lane) s place short in
    let in_slice : c / s ≡ slice =
    sym (div-mul-add (c / s) p.lanes l low) ∙ ap (λ (k : ℕ). k / p.lanes) row ∙ div-mul-add slice p.lanes lane lanes in
    let in_lane : l ≡ lane =
    sym (mod-mul-add (c / s) p.lanes l low) ∙ ap (λ (k : ℕ). k % p.lanes) row ∙ mod-mul-add slice p.lanes lane lanes in
    (in_lane, sym (div-add-mod' c s) ∙ rw (in_slice, at) refl)

-- two places at one point of the memory are one place
same_point : (p : ArgonParams) (l c lane column : ℕ) → c < lane_len p → column < lane_len p → place_in p l c ≡ place_in p lane column → (l ≡ lane) × (c ≡ column)
same_point p l c lane column short low e = (
  sym (div-mul-add l (lane_len p) c short) ∙ ap (λ (k : ℕ). k / lane_len p) e ∙ div-mul-add lane (lane_len p) column low,
  sym (mod-mul-add l (lane_len p) c short) ∙ ap (λ (k : ℕ). k % lane_len p) e ∙ mod-mul-add lane (lane_len p) column low,
)

-- what a place shows is older than the next block
latest-lt : (T pass r o : ℕ) → r < T → o < T → o < pass * T + r → latest_at T (pass * T + r) o < pass * T + r
latest-lt T pass r o low fits before =
    let now : (pass * T + r) / T ≡ pass = div-mul-add pass T r low in
    rw now (grind (arith, nat_tests))

-- the place that was filled shows the newest block
shows_newest : (i : Instance) (memory : List (List ℕ)) (pass slice lane place n l c : ℕ) → IsWithinLimits i.params → HoldsBlocks i memory n
    → slice < 4 → lane < i.params.lanes → place < segment_len i.params
    → n ≡ pass * memory_len i.params + ((slice * i.params.lanes + lane) * segment_len i.params + place)
    → l < i.params.lanes → offset_of i.params l c ≡ (slice * i.params.lanes + lane) * segment_len i.params + place
    → seen_in i.params (slice_set memory (place_in i.params lane (slice * segment_len i.params + place)) (next_from i (seen_in i.params memory) pass slice lane place)) l c
    ≡ slice_index_or (blocks i (n + 1)) (latest i.params (n + 1) l c) []
shows_newest i memory pass slice lane place n l c h held low lanes short time fits here =
    let p = i.params in
    let s = segment_len p in
    let r : ℕ = (slice * p.lanes + lane) * s + place in
    let column : ℕ = slice * s + place in
    let old = λ (l c : ℕ). slice_index_or (blocks i n) (latest p n l c) [] in
    let three : slice * s ≤ 3 * s = mul-le-mul_right s (omega arith) in
    let in_memory : place_in p lane column < length memory = omega (arith, place_in-within p lane column lanes (omega (arith, three)), held.len) in
    let in_pass : r < memory_len p = place_in_pass p.lanes s slice lane place low lanes short in
    let same = same_place p h slice lane place l c lanes short fits here in
    let d = digits p pass slice lane place n low lanes short time in
    let seen : (l c : ℕ) → l < p.lanes → c < lane_len p → offset_of p l c < pass * memory_len p + r → seen_in p memory l c ≡ old l c =
    λ l c a b filled. held.latest_blocks l c a b (omega (arith, time, filled)) in
    let next : next_from i (seen_in p memory) pass slice lane place ≡ next_from i old pass slice lane place =
    next_same i (seen_in p memory) old pass slice lane place seen h low lanes short in
    let newest : slice_index_or (blocks i (n + 1)) n [] ≡ next_from i old pass slice lane place =
    newest_block i n ∙ rw (d.0, d.1, d.2, d.3) refl in
    let at : latest p (n + 1) l c ≡ n =
    rw (here, time) (latest_here (memory_len p) pass r in_pass) in
    rw (at, newest, same.0, same.1) (get_or-set_same memory (place_in p lane column) _ [] in_memory ∙ next)

-- each other place shows what it showed
shows_older : (i : Instance) (memory : List (List ℕ)) (block : List ℕ) (pass slice lane place n l c : ℕ) → IsWithinLimits i.params → HoldsBlocks i memory n
    → slice < 4 → lane < i.params.lanes → place < segment_len i.params
    → n ≡ pass * memory_len i.params + ((slice * i.params.lanes + lane) * segment_len i.params + place)
    → l < i.params.lanes → c < lane_len i.params → offset_of i.params l c < n + 1
    → offset_of i.params l c ≢ (slice * i.params.lanes + lane) * segment_len i.params + place
    → seen_in i.params (slice_set memory (place_in i.params lane (slice * segment_len i.params + place)) block) l c
    ≡ slice_index_or (blocks i (n + 1)) (latest i.params (n + 1) l c) []
shows_older i memory block pass slice lane place n l c h held low lanes short time fits c_fits filled other =
    let p = i.params in
    let s = segment_len p in
    let T = memory_len p in
    let o = offset_of p l c in
    let r : ℕ = (slice * p.lanes + lane) * s + place in
    let column : ℕ = slice * s + place in
    let three : slice * s ≤ 3 * s = mul-le-mul_right s (omega arith) in
    let in_pass : r < T = place_in_pass p.lanes s slice lane place low lanes short in
    let o_in_pass : o < T = offset_in_pass p h l c fits c_fits in
    let apart : place_in p l c ≢ place_in p lane column = λ e.
    let same = same_point p l c lane column c_fits (omega (arith, three)) e in
    other (rw (same.0, same.1) (offset_at p slice lane place short)) in
    let before : o < n = elim (cases_lt 0 pass) [
      | inl again ↦
          let passes : 1 * T ≤ pass * T = mul-le-mul_right T again in
          omega (arith, passes)
      | inr none ↦
          let first : pass ≡ 0 = omega arith in
          let now : n ≡ 0 * T + r = rw first at time in
          omega arith
    ] in
    let at : latest p (n + 1) l c ≡ latest p n l c =
    rw time (latest_elsewhere T pass r o in_pass o_in_pass other) in
    let older : latest p n l c < n = rw time (latest-lt T pass r o in_pass o_in_pass (omega arith)) in
    get_or-set_other memory (place_in p lane column) (place_in p l c) block [] apart
    ∙ held.latest_blocks l c fits c_fits before
    ∙ sym (rw at (older_block i n (latest p n l c) older))

-- one more block is filled in
pub holds_next : (i : Instance) (memory : List (List ℕ)) (pass slice lane place n : ℕ) → IsWithinLimits i.params → HoldsBlocks i memory n
    → slice < 4 → lane < i.params.lanes → place < segment_len i.params
    → n ≡ pass * memory_len i.params + ((slice * i.params.lanes + lane) * segment_len i.params + place)
    → HoldsBlocks i (slice_set memory (place_in i.params lane (slice * segment_len i.params + place)) (next_from i (seen_in i.params memory) pass slice lane place)) (n + 1)
holds_next i memory pass slice lane place n h held low lanes short time = record {
  len = length-set memory _ _ ∙ held.len;
  latest_blocks = λ l c fits c_fits filled. elim (eqb_tells (offset_of i.params l c) ((slice * i.params.lanes + lane) * segment_len i.params + place)) [
    | inl here ↦ shows_newest i memory pass slice lane place n l c h held low lanes short time fits here.1
    | inr other ↦ shows_older i memory _ pass slice lane place n l c h held low lanes short time fits c_fits filled other.1
  ];
}
