-- What the memory shows after the last pass.
use Rattle.std.proofs.Common.{◌≡◌, ℕ, zero, suc, ◌+◌, ◌-◌, ◌*◌, ◌/◌, ◌<◌, List, [], slice_index_or, refl, ap, ◌∙◌, add-zero, arith}
use Rattle.std.proofs.lemmas.Nat.{div-mul-add}
use Rattle.argon_core.specs.Compression.{xor_blocks}
use Rattle.argon_core.specs.Argon2.{IsWithinLimits, block, blocks, lane_len, last_blocks, latest, memory_len, offset_of, time_of}
use Rattle.argon_core.specs.Memory.{HoldsBlocks, seen_in}
use Rattle.argon_core.specs.declared.params.Instance.{Instance}
use Rattle.argon_core.proofs.EarlierPlaces.{offset_in_pass}
use Rattle.argon_core.proofs.Holding.{older_block}
use Rattle.argon_core.proofs.Times.{latest_above}

-- a block stays what it is while more are filled in
kept_block : (i : Instance) (m k t : ℕ) → t < m → slice_index_or (blocks i (m + k)) t [] ≡ slice_index_or (blocks i m) t []
kept_block i m zero t low =
    let same : m + 0 ≡ m = omega arith in
    rw same refl
kept_block i m (suc k) t low =
    let next : m + suc k ≡ m + k + 1 = omega arith in
    rw next (older_block i (m + k) t (omega arith) ∙ kept_block i m k t low)

-- after the last pass a place shows the block of the last pass
pub last_shown : (i : Instance) (memory : List (List ℕ)) (lane column : ℕ) → IsWithinLimits i.params → HoldsBlocks i memory (i.params.passes * memory_len i.params)
    → lane < i.params.lanes → column < lane_len i.params → seen_in i.params memory lane column ≡ block i (i.params.passes - 1) lane column
last_shown i memory lane column h held low short =
    let p = i.params in
    let T = memory_len p in
    let N : ℕ = p.passes * T in
    let o = offset_of p lane column in
    let t = time_of p (p.passes - 1) lane column in
    let in_pass : o < T = offset_in_pass p h lane column low short in
    let passes : p.passes ≡ p.passes - 1 + 1 = omega (arith, h.some_passes) in
    let whole : N ≡ (p.passes - 1) * T + T = ap (λ (k : ℕ). k * T) passes ∙ omega arith in
    let pass : N / T ≡ p.passes = rw add-zero at (div-mul-add p.passes T 0 (omega arith)) in
    let last : latest p N lane column ≡ t = latest_above T p.passes o N pass (omega arith) ∙ omega (arith, whole) in
    let rest : N ≡ t + 1 + (N - (t + 1)) = omega (arith, whole, in_pass) in
    held.latest_blocks lane column low short (omega (arith, whole, in_pass))
    ∙ ap (λ (k : ℕ). slice_index_or (blocks i N) k []) last
    ∙ ap (λ (k : ℕ). slice_index_or (blocks i k) t []) rest
    ∙ kept_block i (t + 1) (N - (t + 1)) t (omega arith)

-- the last block of one more lane
pub last_blocks_next : (i : Instance) (n : ℕ) (x y : List ℕ) → x ≡ last_blocks i n → y ≡ block i (i.params.passes - 1) n (lane_len i.params - 1)
    → xor_blocks x y ≡ last_blocks i (n + 1)
unfolding last_blocks
last_blocks_next i n x y e f =
    let next : suc n ≡ n + 1 = omega arith in
    rw (e, f) (ap (λ (k : ℕ). last_blocks i k) next)
